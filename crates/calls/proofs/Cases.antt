-- The cases to hold the definitions to (01), one table from bytes to bytes: those with *, the others of its list, and bad PS.
-- Rests on computing the definitions.
use mathlib.Core.Path.{◌≡◌, refl}
use mathlib.Core.Bool.{true, false}
use mathlib.Core.List.{List, [], ◌∷◌, ◌++◌}
use Prim.Native.Nat.{ℕ}
use lib.Count.{count_trailing_zeros}
use Rattle.fields.specs.Answers.{judged}
use Rattle.fields.specs.Outcomes.{placed}
use Rattle.fields.specs.Reading.{part, be, whole, field, mark, many, ended}
use Rattle.fields.specs.Writing.{spell}
use Rattle.numbers.specs.Bits.{bit, ones}
use Rattle.schema.specs.Schema.{successors, links, number, listed, variable, variables, variables_of, node, nodes, body, schema}
use Rattle.schema.specs.Layout.{rank_count}
use Rattle.policies.specs.Pass.{pass, in_force, forced}
use Rattle.policies.specs.Policies.{ranks, condition, conditions, rule_of, rule, rules, head, policy, onward, policies_from, policies, rule_for, rank_of, conditions_of}
use Rattle.instances.specs.File.{reached, due, none_below, lowest_due, value_width, value_of, value, values, entry_of, entry, entries, instance, encode_value, encode_values, encode_entry, encode_entries, encode}
use Rattle.instances.specs.Instance.{chooses, reaches, right_choice, in_domain, has}
use Rattle.instances.specs.Plan.{planned_from, planned}
use Rattle.model.specs.Comparing.{compared, forbidden_value, forbidden_entry, forbidden_from, forbidden}
use Rattle.model.specs.Order.{better_by, better, entry_at, within, good_choice, good_at, good_step, good, as_good}
use Rattle.model.specs.Reconciling.{best, taken, can_step, can, plan, reconcile, own, both, restrict, restrict_all, combined_from, combined, least, least_each, reconciled}
use Rattle.model.specs.Satisfaction.{column_of, rank, condition_at, admits, meets, allowed, admitted, choice_meets}
use Rattle.lines.specs.Record.{pass_at}
use Rattle.decimals.specs.Decimal.{digits, decimal}
use Rattle.lines.specs.Line.{hex_digit, hex, words, line, result_text, line_of, bad_line_of}
use Rattle.lines.proofs.ReadBack.{half_of, bytes_of}
use Rattle.decimals.proofs.Texts.{codes}
use Rattle.lines.proofs.Texts.{lowered, bytes}
use Rattle.calls.specs.Inputs.{with_schema, with_policies, with_pass, with_in_force}
use Rattle.calls.specs.Calls.{given, reconciling, permitted, checking_in_force, checking, comparing_in_force, comparing}
use Rattle.calls.specs.Program.{line_in, pass_line, line_for, ends, lines_at, last_at}

-- 'schema.bin'
unfoldable pub example-schema : List ℕ
example-schema = bytes "534803 534E0102010200 534E01000100000000010000000A 534E010000"

-- 'policies.bin'
unfoldable pub example-policies : List ℕ
example-policies = bytes "50480064006401 504E000005 5048006500C802 504E000100 504E010000000400000008"

-- 'input'
pub example-input : List ℕ
example-input = bytes "505300640064 505300640065 505300650065 505300650064"

-- an input whose second record has wrong letters
pub letters-input : List ℕ
letters-input = bytes "505300640064 505400640065 505300650065"

-- an input whose third record is cut
pub cut-input : List ℕ
cut-input = bytes "505300650064 505300650065 5053006500"

-- 'a third policy on day 100, node 1 in 20..30'
pub three-policies : List ℕ
three-policies = example-policies ++ bytes "50480064006401 504E01000000140000001E"

-- 'a fourth on day 100, node 0 with ranks 0, 255'
pub four-policies : List ℕ
four-policies = three-policies ++ bytes "50480064006401 504E0000FF"

-- 'domain −5..−1'
pub signed-schema : List ℕ
signed-schema = bytes "534801 534E01000100FFFFFFFBFFFFFFFF"

-- 'condition −3..10'
pub signed-policies : List ℕ
signed-policies = bytes "50480001000101 504E00FFFFFFFD0000000A"

-- 'size 32'
pub mask-schema : List ℕ
mask-schema = bytes "534801 534E0100010120"

-- 'masks 80000000 and C0000000 (hex)'
pub mask-policies : List ℕ
mask-policies = bytes "50480001000101 504E0080000000 50480001000101 504E00C0000000"

-- 'size 5'
pub five-schema : List ℕ
five-schema = bytes "534801 534E0100010105"

-- 'bit 4'
pub bit-4-policies : List ℕ
bit-4-policies = bytes "50480001000101 504E0000000010"

-- 'bit 5'
pub bit-5-policies : List ℕ
bit-5-policies = bytes "50480001000101 504E0000000020"

-- 'node 0 all {1,2}, node 1 one {2,3}'
pub shared-schema : List ℕ
shared-schema = bytes "534804 534E0002010200 534E0102020300 534E010000 534E010000"

-- 'node 0 all {1,2}, both kind 1'
pub two-schema : List ℕ
two-schema = bytes "534805 534E0002010200 534E0102030400 534E0102030400 534E010000 534E010000"

-- a buffer that holds something
pub buffer : List ℕ
buffer = bytes "E0E1E2E3E4E5E6E7 E8E9EAEBECEDEEEF F0F1F2F3"

pub record Cases : Type 0 where
  -- what stands in hex is these bytes
  pub hex-read : bytes "0aF9 FF" ≡ 0x0a ∷ 0xf9 ∷ 0xff ∷ []
  -- * 'the four lines above'; the program takes up to 24 records at once, and goes on after these
  pub four-lines :
      lines_at example-schema example-policies 0 example-input 24 0
      ≡ codes "100 100 0 0 0 494802494e0001494e01ff00000001\n"
      ++ codes "100 101 0 0 0 494802494e0001494e01ff00000004\n"
      ++ codes "101 101 0 0 0 494802494e0002494e02ff\n"
      ++ codes "101 100 12 3 0 -\n"
  pub four-go-on : last_at example-input 24 0 ≡ false
  -- 'number, file, offset in decimal': a mask at byte 10 of the policies
  pub offset-line : lines_at five-schema bit-5-policies 0 (bytes "505300010001") 24 0 ≡ codes "1 1 11 2 10 -\n"
  -- 'a bad PS prints - for a and b, its 1 or 2, file 3, the failing field's offset from the start of the input, -, and ends the run'
  pub letters-lines :
      lines_at example-schema example-policies 0 letters-input 24 0
      ≡ codes "100 100 0 0 0 494802494e0001494e01ff00000001\n"
      ++ codes "- - 1 3 6 -\n"
  pub letters-end : last_at letters-input 24 0 ≡ true
  pub cut-lines :
      lines_at example-schema example-policies 0 cut-input 24 0
      ≡ codes "101 100 12 3 0 -\n"
      ++ codes "101 101 0 0 0 494802494e0002494e02ff\n"
      ++ codes "- - 2 3 16 -\n"
  pub cut-end : last_at cut-input 24 0 ≡ true
  -- the same where 144 bytes of the input went before
  pub cut-further-on :
      lines_at example-schema example-policies 144 cut-input 24 0
      ≡ codes "101 100 12 3 0 -\n"
      ++ codes "101 101 0 0 0 494802494e0002494e02ff\n"
      ++ codes "- - 2 3 160 -\n"
  -- * 'pass 300 to 300: choice 1, value 1'
  pub later :
      reconciling example-schema example-policies 300 300 buffer
      ≡ record { answer = record { number = 0; file = 0; offset = 0; value = 15 }; buffer = bytes "494802 494E0001 494E01FF00000001 EFF0F1F2F3" }
  -- without a star: 'pass 100 to 102: 12'
  pub too_long :
      reconciling example-schema example-policies 100 102 buffer
      ≡ record { answer = record { number = 12; file = 3; offset = 0; value = 0 }; buffer = buffer }
  -- * 'pass 100 to 100, a third policy ..: choice 2'
  pub third-policy :
      reconciling example-schema three-policies 100 100 buffer
      ≡ record { answer = record { number = 0; file = 0; offset = 0; value = 11 }; buffer = bytes "494802 494E0002 494E02FF EBECEDEEEF F0F1F2F3" }
  -- * 'a fourth ..: 13'
  pub fourth-policy :
      reconciling example-schema four-policies 100 100 buffer
      ≡ record { answer = record { number = 13; file = 0; offset = 0; value = 0 }; buffer = buffer }
  -- without a star: 'line one: 15 bytes suffice, 14 bytes give refusal 14'
  pub enough :
      reconciling example-schema example-policies 100 100 (bytes "E0E1E2E3E4E5E6E7 E8E9EAEBECEDEE")
      ≡ record { answer = record { number = 0; file = 0; offset = 0; value = 15 }; buffer = bytes "494802 494E0001 494E01FF00000001" }
  pub too_short :
      reconciling example-schema example-policies 100 100 (bytes "E0E1E2E3E4E5E6E7 E8E9EAEBECED")
      ≡ record { answer = record { number = 14; file = 0; offset = 0; value = 0 }; buffer = bytes "E0E1E2E3E4E5E6E7 E8E9EAEBECED" }
  -- without a star: 'empty schema: 2, file 1, offset 0'
  pub no-schema :
      reconciling [] example-policies 100 100 buffer
      ≡ record { answer = record { number = 2; file = 1; offset = 0; value = 0 }; buffer = buffer }
  -- * 'domain −5..−1, condition −3..10: value −3'
  pub negative :
      reconciling signed-schema signed-policies 1 1 buffer
      ≡ record { answer = record { number = 0; file = 0; offset = 0; value = 11 }; buffer = bytes "494801 494E00FFFFFFFFFD EBECEDEEEF F0F1F2F3" }
  -- * 'size 32, masks 80000000 and C0000000 (hex): 31'
  pub highest-bit :
      reconciling mask-schema mask-policies 1 1 buffer
      ≡ record { answer = record { number = 0; file = 0; offset = 0; value = 8 }; buffer = bytes "494801 494E00FF1F E8E9EAEBECEDEEEF F0F1F2F3" }
  -- without a star: 'size 5: bit 4 passes, bit 5 gives 11'
  pub bit-4 :
      reconciling five-schema bit-4-policies 1 1 buffer
      ≡ record { answer = record { number = 0; file = 0; offset = 0; value = 8 }; buffer = bytes "494801 494E00FF04 E8E9EAEBECEDEEEF F0F1F2F3" }
  pub bit-5 :
      reconciling five-schema bit-5-policies 1 1 buffer
      ≡ record { answer = record { number = 11; file = 2; offset = 10; value = 0 }; buffer = buffer }
  -- * 'node 0 all {1,2}, node 1 one {2,3}: choosing 3 reaches all four'
  pub shared :
      checking shared-schema [] 1 1 (bytes "494804 494E00FF 494E0103 494E02FF 494E03FF")
      ≡ record { number = 0; file = 0; offset = 0; value = 0 }
  -- * 'node 0 all {1,2}, both kind 1, each instance better at one: 3'
  pub apart :
      comparing two-schema [] 1 1 (bytes "494805 494E00FF 494E0103 494E0204 494E03FF 494E04FF") (bytes "494805 494E00FF 494E0104 494E0203 494E03FF 494E04FF")
      ≡ record { number = 0; file = 0; offset = 0; value = 3 }

pub cases : Cases
unfolding count_trailing_zeros example-schema example-policies example-input letters-input cut-input three-policies four-policies signed-schema signed-policies mask-schema mask-policies five-schema bit-4-policies bit-5-policies shared-schema two-schema buffer judged placed part be whole field mark many ended spell bit ones successors links number listed variable variables variables_of node nodes body schema pass in_force forced rank_count ranks condition conditions rule_of rule rules head policy onward policies_from policies rule_for rank_of conditions_of reached due none_below lowest_due value_width value_of value values entry_of entry entries instance encode_value encode_values encode_entry encode_entries encode chooses reaches right_choice in_domain has planned_from planned compared forbidden_value forbidden_entry forbidden_from forbidden better_by better entry_at within good_choice good_at good_step good as_good best taken can_step can plan reconcile own both restrict restrict_all combined_from combined least least_each reconciled column_of rank condition_at admits meets allowed admitted choice_meets pass_at digits decimal hex_digit hex words line result_text line_of bad_line_of half_of bytes_of codes lowered bytes with_schema with_policies with_pass with_in_force given reconciling permitted checking_in_force checking comparing_in_force comparing line_in pass_line line_for ends lines_at last_at
cases =
    record {
      hex-read = refl;
      four-lines = refl;
      four-go-on = refl;
      offset-line = refl;
      letters-lines = refl;
      letters-end = refl;
      cut-lines = refl;
      cut-end = refl;
      cut-further-on = refl;
      later = refl;
      too_long = refl;
      third-policy = refl;
      fourth-policy = refl;
      enough = refl;
      too_short = refl;
      no-schema = refl;
      negative = refl;
      highest-bit = refl;
      bit-4 = refl;
      bit-5 = refl;
      shared = refl;
      apart = refl;
    }
