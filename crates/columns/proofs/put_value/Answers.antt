-- One return for each sign of a number, and one for a listed value.
-- Rests on two's complement, and on the number of digits of 32 bits.
use Rattle.columns.proofs.Columns.{digits_room, sign_room, number_low, number_high, listed_any}
use Rattle.columns.proofs.put_value.Goals as goal

pub put_right-requires-clause-x_len_bound : goal.put_right-requires-clause-x_len_bound
put_right-requires-clause-x_len_bound c = search digits_room

pub put_negative-requires-clause-x_len_bound : goal.put_negative-requires-clause-x_len_bound
put_negative-requires-clause-x_len_bound c = search sign_room

pub put_right-requires-in-Listed-clause-x_len_bound : goal.put_right-requires-in-Listed-clause-x_len_bound
put_right-requires-in-Listed-clause-x_len_bound c = search digits_room

pub returns-then-u-lt2147483648 : goal.returns-then-u-lt2147483648
returns-then-u-lt2147483648 c = search number_low

pub returns-else-u-lt2147483648 : goal.returns-else-u-lt2147483648
returns-else-u-lt2147483648 c = search number_high

pub returns-in-Listed : goal.returns-in-Listed
returns-in-Listed c = search listed_any
