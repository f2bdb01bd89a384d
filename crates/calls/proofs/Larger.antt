-- Files with several of everything: what stands second, third or last is not taken for the first. From bytes to the answer.
-- Rests on computing the definitions.
use mathlib.Core.Path.{◌≡◌, refl}
use mathlib.Core.List.{List, [], ◌++◌}
use Prim.Native.Nat.{ℕ}
use lib.Count.{count_trailing_zeros}
use lib.ListN.{replicate}
use Rattle.fields.specs.Answers.{judged}
use Rattle.fields.specs.Outcomes.{placed}
use Rattle.fields.specs.Reading.{part, be, whole, field, mark, many, ended}
use Rattle.fields.specs.Writing.{spell}
use Rattle.numbers.specs.Bits.{bit, ones}
use Rattle.schema.specs.Schema.{successors, links, number, listed, variable, variables, variables_of, node, nodes, body, schema}
use Rattle.schema.specs.Layout.{rank_count}
use Rattle.policies.specs.Pass.{pass, in_force, forced}
use Rattle.policies.specs.Policies.{ranks, condition, conditions, rule_of, rule, rules, head, policy, onward, policies_from, policies, rule_for, rank_of, conditions_of}
use Rattle.instances.specs.File.{reached, due, none_below, lowest_due, value_width, value_of, value, values, entry_of, entry, entries, instance, encode_value, encode_values, encode_entry, encode_entries, encode}
use Rattle.instances.specs.Instance.{chooses, reaches, right_choice, in_domain, has}
use Rattle.instances.specs.Plan.{planned_from, planned}
use Rattle.decimals.specs.Decimal.{digits, decimal}
use Rattle.columns.specs.Sheet.{right_aligned, signed_decimal, choice_column, value_columns, sheet_line, sheet}
use Rattle.model.specs.Comparing.{compared, forbidden_value, forbidden_entry, forbidden_from, forbidden}
use Rattle.model.specs.Order.{better_by, better, entry_at, within, good_choice, good_at, good_step, good, as_good}
use Rattle.model.specs.Reconciling.{best, taken, can_step, can, plan, reconcile, own, both, restrict, restrict_all, combined_from, combined, least, least_each, reconciled}
use Rattle.model.specs.Satisfaction.{column_of, rank, condition_at, admits, meets, allowed, admitted, choice_meets}
use Rattle.lines.proofs.ReadBack.{half_of, bytes_of}
use Rattle.decimals.proofs.Texts.{codes}
use Rattle.lines.proofs.Texts.{lowered, bytes}
use Rattle.calls.specs.Inputs.{with_schema, with_policies, with_pass, with_in_force}
use Rattle.calls.specs.Calls.{given, reconciling, permitted, checking_in_force, checking, comparing_in_force, comparing, delivering, copying, sheeting}

-- node 0 all {1,2,4}, with a number −10..10 and a listed variable of size 5; node 1 one {3,5,6,7}, with one of size 3; node 2 one {5};
-- node 4 a leaf with four variables, 0..100, size 8, −5..5 and size 32; node 6 a leaf with one of size 2; nodes 3, 5 and 7 leaves
pub larger-schema : List ℕ
larger-schema =
    bytes "534808 534E0003010204 02 00FFFFFFF60000000A 0105 534E010403050607 01 0103 534E01010500 534E010000"
    ++ bytes "534E0100 04 000000000000000064 0108 00FFFFFFFB00000005 0120 534E010000 534E0100010102 534E010000"

-- day 10: node 0 in −7..10 and 2, 3 or 4; node 1 with ranks 4, 4, 2, 2, and 1 or 2
pub day-10 : List ℕ
day-10 = bytes "5048000A000A02 504E00 FFFFFFF90000000A 0000001C 504E01 04040202 00000006"

-- day 9: node 1 with ranks 0, 0, 255, 255, and any value
pub day-9 : List ℕ
day-9 = bytes "50480009000901 504E01 0000FFFF 00000007"

-- days 5 to 20: node 1 with ranks 1, 0, 7, 3, and 0 or 2; node 4 in 20..50, 4 to 7, −3..9, and 16 or 31
pub days-5-to-20 : List ℕ
days-5-to-20 = bytes "50480005001402 504E01 01000703 00000005 504E04 0000001400000032 000000F0 FFFFFFFD00000009 80010000"

-- days 10 and 11: node 4 in 30..40, 5 or 6, −128..−1, and 30 or 31; node 7, of which there is nothing to say
pub days-10-to-11 : List ℕ
days-10-to-11 = bytes "5048000A000B02 504E04 0000001E00000028 00000060 FFFFFF80FFFFFFFF C0000000 504E07"

pub larger-policies : List ℕ
larger-policies = day-10 ++ day-9 ++ days-5-to-20 ++ days-10-to-11

-- an instance by the values of nodes 0, 1 and 4: node 1 chooses 7
pub choosing-7 : List ℕ → List ℕ → List ℕ → List ℕ
choosing-7 xs ys zs = bytes "494806 494E00FF" ++ xs ++ bytes "494E0107" ++ ys ++ bytes "494E0205 494E04FF" ++ zs ++ bytes "494E05FF 494E07FF"

-- 6, whose value is 1
pub choosing-6 : List ℕ → List ℕ → List ℕ → List ℕ
choosing-6 xs ys zs = bytes "494806 494E00FF" ++ xs ++ bytes "494E0106" ++ ys ++ bytes "494E0205 494E04FF" ++ zs ++ bytes "494E05FF 494E06FF01"

-- 5, which node 2 chooses too
pub choosing-5 : List ℕ → List ℕ → List ℕ → List ℕ
choosing-5 xs ys zs = bytes "494805 494E00FF" ++ xs ++ bytes "494E0105" ++ ys ++ bytes "494E0205 494E04FF" ++ zs ++ bytes "494E05FF"

-- 3
pub choosing-3 : List ℕ → List ℕ → List ℕ → List ℕ
choosing-3 xs ys zs = bytes "494806 494E00FF" ++ xs ++ bytes "494E0103" ++ ys ++ bytes "494E0205 494E03FF 494E04FF" ++ zs ++ bytes "494E05FF"

-- the least values of nodes 0, 1 and 4 on day 10
pub least-0 : List ℕ
least-0 = bytes "FFFFFFF9 02"

pub least-1 : List ℕ
least-1 = bytes "02"

pub least-4 : List ℕ
least-4 = bytes "0000001E 05 FFFFFFFD 1F"

pub record Larger : Type 0 where
  -- 6 and 7 are ranked alike by the first policy in force, the second decides; 5 is reached through node 2
  pub on-day-10 :
      reconciling larger-schema larger-policies 10 10 (replicate 45 0xAA)
      ≡ record { answer = record { number = 0; file = 0; offset = 0; value = 43 }; buffer = choosing-7 least-0 least-1 least-4 ++ bytes "AAAA" }
  -- there is no PN of node 0, and one of node 4
  pub on-day-9 :
      reconciling larger-schema larger-policies 9 9 (replicate 39 0xAA)
      ≡ record { answer = record { number = 0; file = 0; offset = 0; value = 39 }; buffer = choosing-5 (bytes "FFFFFFF6 00") (bytes "00") (bytes "00000014 04 FFFFFFFD 10") }
  -- the third policy in force decides between 3 and 5
  pub on-both-days :
      reconciling larger-schema larger-policies 9 10 (replicate 40 0xAA)
      ≡ record { answer = record { number = 0; file = 0; offset = 0; value = 39 }; buffer = choosing-5 least-0 least-1 least-4 ++ bytes "AA" }
  -- what is written is accepted; so are higher values, up to the last that every policy admits
  pub written : checking larger-schema larger-policies 10 10 (choosing-7 least-0 least-1 least-4) ≡ record { number = 0; file = 0; offset = 0; value = 0 }
  pub highest :
      checking larger-schema larger-policies 10 10 (choosing-6 (bytes "0000000A 04") least-1 (bytes "00000028 06 FFFFFFFF 1F"))
      ≡ record { number = 0; file = 0; offset = 0; value = 0 }
  -- 18 at each value of the three nodes, at the first of two, and at the choice of a third or fourth successor
  pub first-of-root :
      checking larger-schema larger-policies 10 10 (choosing-7 (bytes "FFFFFFF8 02") least-1 least-4)
      ≡ record { number = 18; file = 4; offset = 7; value = 0 }
  pub second-of-root :
      checking larger-schema larger-policies 10 10 (choosing-7 (bytes "FFFFFFF9 01") least-1 least-4)
      ≡ record { number = 18; file = 4; offset = 11; value = 0 }
  pub of-choosing :
      checking larger-schema larger-policies 10 10 (choosing-7 least-0 (bytes "01") least-4)
      ≡ record { number = 18; file = 4; offset = 16; value = 0 }
  pub first-value :
      checking larger-schema larger-policies 10 10 (choosing-7 least-0 least-1 (bytes "00000029 05 FFFFFFFD 1F"))
      ≡ record { number = 18; file = 4; offset = 25; value = 0 }
  pub second-value :
      checking larger-schema larger-policies 10 10 (choosing-7 least-0 least-1 (bytes "0000001E 07 FFFFFFFD 1F"))
      ≡ record { number = 18; file = 4; offset = 29; value = 0 }
  pub third-value :
      checking larger-schema larger-policies 10 10 (choosing-7 least-0 least-1 (bytes "0000001E 05 00000000 1F"))
      ≡ record { number = 18; file = 4; offset = 30; value = 0 }
  pub fourth-value :
      checking larger-schema larger-policies 10 10 (choosing-7 least-0 least-1 (bytes "0000001E 05 FFFFFFFD 1E"))
      ≡ record { number = 18; file = 4; offset = 34; value = 0 }
  pub second-and-fourth :
      checking larger-schema larger-policies 10 10 (choosing-7 least-0 least-1 (bytes "0000001E 07 FFFFFFFD 1E"))
      ≡ record { number = 18; file = 4; offset = 29; value = 0 }
  pub third-successor :
      checking larger-schema larger-policies 9 9 (choosing-6 (bytes "FFFFFFF6 00") least-1 least-4)
      ≡ record { number = 18; file = 4; offset = 15; value = 0 }
  pub fourth-successor :
      checking larger-schema larger-policies 9 10 (choosing-7 least-0 (bytes "01") (bytes "0000001E 07 FFFFFFFD 1F"))
      ≡ record { number = 18; file = 4; offset = 15; value = 0 }
  -- 17 at each value of node 4
  pub first-domain :
      checking larger-schema larger-policies 10 10 (choosing-7 least-0 least-1 (bytes "00000065 05 FFFFFFFD 1F"))
      ≡ record { number = 17; file = 4; offset = 25; value = 0 }
  pub second-domain :
      checking larger-schema larger-policies 10 10 (choosing-7 least-0 least-1 (bytes "0000001E 08 FFFFFFFD 1F"))
      ≡ record { number = 17; file = 4; offset = 29; value = 0 }
  pub third-domain :
      checking larger-schema larger-policies 10 10 (choosing-7 least-0 least-1 (bytes "0000001E 05 FFFFFFFA 1F"))
      ≡ record { number = 17; file = 4; offset = 30; value = 0 }
  pub fourth-domain :
      checking larger-schema larger-policies 10 10 (choosing-7 least-0 least-1 (bytes "0000001E 05 FFFFFFFD 20"))
      ≡ record { number = 17; file = 4; offset = 34; value = 0 }
  -- 16 at a node between two successors, at a choice of kind 0, and at none where there is one successor
  pub between :
      checking larger-schema [] 10 10 (bytes "494806 494E00FFFFFFFFF902 494E0104")
      ≡ record { number = 16; file = 4; offset = 15; value = 0 }
  pub of-kind-0 : checking larger-schema [] 10 10 (bytes "494806 494E0001") ≡ record { number = 16; file = 4; offset = 6; value = 0 }
  pub of_one :
      checking larger-schema [] 10 10 (bytes "494806 494E00FFFFFFFFF902 494E010702 494E02FF")
      ≡ record { number = 16; file = 4; offset = 20; value = 0 }
  -- 15 at a node that nothing reaches, and where a third successor of kind 0 has no entry
  pub not-reached :
      checking larger-schema [] 10 10 (bytes "494806 494E00FFFFFFFFF902 494E010702 494E0205 494E03")
      ≡ record { number = 15; file = 4; offset = 23; value = 0 }
  pub third-left-out :
      checking larger-schema [] 10 10 (bytes "494805 494E00FFFFFFFFF902 494E010702 494E0205 494E05FF")
      ≡ record { number = 15; file = 4; offset = 23; value = 0 }
  -- 10, 11 and 2 in a later PN of a later policy
  pub later-node :
      checking larger-schema (day-10 ++ bytes "50480009000902 504E01 0000FFFF 00000007 504E01") 10 10 []
      ≡ record { number = 10; file = 2; offset = 53; value = 0 }
  pub later-mask :
      checking larger-schema (day-10 ++ bytes "50480009000902 504E00 FFFFFFF90000000A 0000001C 504E04 0000001400000032 00000100") 10 10 []
      ≡ record { number = 11; file = 2; offset = 66; value = 0 }
  pub later-cut :
      checking larger-schema (day-10 ++ bytes "50480009000902 504E01 0000FFFF 00000007 504E04 0000001400000032 000000F0 FFFFFFFD 000000") 10 10 []
      ≡ record { number = 2; file = 2; offset = 70; value = 0 }
  -- 5 at a third successor, and at a later node's own number; 6 at a fourth variable of a later node
  pub third-link : checking (bytes "534808 534E0003010202") [] 10 10 [] ≡ record { number = 5; file = 1; offset = 9; value = 0 }
  pub later-own : checking (bytes "534803 534E01010100 534E010101") [] 10 10 [] ≡ record { number = 5; file = 1; offset = 13; value = 0 }
  pub fourth-variable :
      checking (bytes "534802 534E00010100 534E0100 04 0108 000000000000000064 0120 0121") [] 10 10 []
      ≡ record { number = 6; file = 1; offset = 28; value = 0 }
  -- 7 is better than 6 by a later policy, and 'values don't enter the order'; without policies the lower number is; two 255 are no
  -- difference, one is the worst rank
  pub first-better :
      comparing larger-schema larger-policies 10 10 (choosing-7 (bytes "0000000A 04") least-1 least-4) (choosing-6 least-0 least-1 least-4)
      ≡ record { number = 0; file = 0; offset = 0; value = 1 }
  pub second-better :
      comparing larger-schema larger-policies 10 10 (choosing-3 least-0 least-1 least-4) (choosing-6 least-0 least-1 least-4)
      ≡ record { number = 0; file = 0; offset = 0; value = 2 }
  pub alike :
      comparing larger-schema larger-policies 10 10 (choosing-7 (bytes "0000000A 04") least-1 least-4) (choosing-7 least-0 least-1 least-4)
      ≡ record { number = 0; file = 0; offset = 0; value = 0 }
  pub by_number :
      comparing larger-schema [] 10 10 (choosing-6 least-0 least-1 least-4) (choosing-3 least-0 least-1 least-4)
      ≡ record { number = 0; file = 0; offset = 0; value = 2 }
  pub both-forbidden :
      comparing larger-schema larger-policies 9 9 (choosing-6 least-0 least-1 least-4) (choosing-7 least-0 least-1 least-4)
      ≡ record { number = 0; file = 0; offset = 0; value = 2 }
  pub one-forbidden :
      comparing larger-schema (day-9 ++ day-10) 9 10 (choosing-7 least-0 least-1 least-4) (choosing-3 least-0 least-1 least-4)
      ≡ record { number = 0; file = 0; offset = 0; value = 2 }
  -- every value, copied
  pub copied :
      copying larger-schema (choosing-6 (bytes "00000003 01") least-1 (bytes "00000004 05 FFFFFFFB 07")) (replicate 45 0xAA)
      ≡ record { answer = record { number = 0; file = 0; offset = 0; value = 44 }; buffer = choosing-6 (bytes "00000003 01") least-1 (bytes "00000004 05 FFFFFFFB 07") ++ bytes "AA" }
  -- on the sheet each in its columns
  pub sheet-written :
      sheeting larger-schema (choosing-6 (bytes "FFFFFFF7 01") least-1 (bytes "00000064 05 FFFFFFFB 1F")) (replicate 331 0xAA)
      ≡ record {
        answer = record { number = 0; file = 0; offset = 0; value = 330 };
        buffer = codes " 0 ---          -9           1                        \n"
            ++ codes " 1   6           2                                    \n"
            ++ codes " 2   5                                                \n"
            ++ codes " 4 ---         100           5          -5          31\n"
            ++ codes " 5 ---                                                \n"
            ++ codes " 6 ---           1                                    \n"
            ++ bytes "AA";
      }

pub larger : Larger
unfolding count_trailing_zeros larger-schema day-10 day-9 days-5-to-20 days-10-to-11 larger-policies choosing-7 choosing-6 choosing-5 choosing-3 least-0 least-1 least-4 judged placed part be whole field mark many ended spell bit ones successors links number listed variable variables variables_of node nodes body schema pass in_force forced rank_count ranks condition conditions rule_of rule rules head policy onward policies_from policies rule_for rank_of conditions_of reached due none_below lowest_due value_width value_of value values entry_of entry entries instance encode_value encode_values encode_entry encode_entries encode chooses reaches right_choice in_domain has planned_from planned compared forbidden_value forbidden_entry forbidden_from forbidden better_by better entry_at within good_choice good_at good_step good as_good best taken can_step can plan reconcile own both restrict restrict_all combined_from combined least least_each reconciled column_of rank condition_at admits meets allowed admitted choice_meets half_of bytes_of codes lowered bytes with_schema with_policies with_pass with_in_force given reconciling permitted checking_in_force checking comparing_in_force comparing delivering copying sheeting digits decimal right_aligned signed_decimal choice_column value_columns sheet_line sheet
larger =
    record {
      on-day-10 = refl;
      on-day-9 = refl;
      on-both-days = refl;
      written = refl;
      highest = refl;
      first-of-root = refl;
      second-of-root = refl;
      of-choosing = refl;
      first-value = refl;
      second-value = refl;
      third-value = refl;
      fourth-value = refl;
      second-and-fourth = refl;
      third-successor = refl;
      fourth-successor = refl;
      first-domain = refl;
      second-domain = refl;
      third-domain = refl;
      fourth-domain = refl;
      between = refl;
      of-kind-0 = refl;
      of_one = refl;
      not-reached = refl;
      third-left-out = refl;
      later-node = refl;
      later-mask = refl;
      later-cut = refl;
      third-link = refl;
      later-own = refl;
      fourth-variable = refl;
      first-better = refl;
      second-better = refl;
      alike = refl;
      by_number = refl;
      both-forbidden = refl;
      one-forbidden = refl;
      copied = refl;
      sheet-written = refl;
    }
