-- 'Where a number arises': breaches of each row and what is just within it, from bytes to the answer; the reconciler's 13 and 14 are cases.
-- Rests on computing the definitions.
use mathlib.Core.Path.{◌≡◌, refl}
use mathlib.Core.List.{List, [], ◌++◌}
use Prim.Native.Nat.{ℕ}
use lib.ListN.{replicate}
use Rattle.fields.specs.Answers.{judged}
use Rattle.fields.specs.Outcomes.{placed}
use Rattle.fields.specs.Reading.{part, be, whole, field, mark, many, ended}
use Rattle.fields.specs.Writing.{spell}
use Rattle.numbers.specs.Bits.{bit}
use Rattle.schema.specs.Schema.{successors, links, number, listed, variable, variables, variables_of, node, nodes, body, schema}
use Rattle.schema.specs.Layout.{rank_count}
use Rattle.policies.specs.Pass.{pass, in_force, forced}
use Rattle.policies.specs.Policies.{ranks, condition, conditions, rule_of, rule, rules, head, policy, onward, policies_from, policies, rule_for, rank_of, conditions_of}
use Rattle.instances.specs.File.{reached, due, none_below, lowest_due, value_width, value_of, value, values, entry_of, entry, entries, instance, encode_value, encode_values, encode_entry, encode_entries, encode}
use Rattle.instances.specs.Instance.{chooses, reaches, right_choice, in_domain, has}
use Rattle.decimals.specs.Decimal.{digits, decimal}
use Rattle.columns.specs.Sheet.{right_aligned, signed_decimal, choice_column, value_columns, sheet_line, sheet}
use Rattle.model.specs.Comparing.{forbidden_value, forbidden_entry, forbidden_from, forbidden}
use Rattle.model.specs.Satisfaction.{column_of, rank, condition_at, admits, meets, allowed, admitted, choice_meets}
use Rattle.lines.proofs.ReadBack.{half_of, bytes_of}
use Rattle.decimals.proofs.Texts.{codes}
use Rattle.lines.proofs.Texts.{lowered, bytes}
use Rattle.calls.specs.Inputs.{with_schema, with_policies, with_pass, with_in_force}
use Rattle.calls.specs.Calls.{permitted, checking_in_force, checking, comparing_in_force, comparing, delivering, copying, sheeting}
use Rattle.calls.proofs.Cases.{example-schema, example-policies}

-- four policies without a PN, and sixteen
pub four-empty : List ℕ
four-empty = bytes "50480001000100 50480001000100 50480001000100 50480001000100"

pub sixteen-policies : List ℕ
sixteen-policies = four-empty ++ four-empty ++ four-empty ++ four-empty

pub record Rows : Type 0 where
  -- mark: '1 wrong letters'
  pub wrong-letters : checking (bytes "5358") [] 1 1 [] ≡ record { number = 1; file = 1; offset = 0; value = 0 }
  pub lower-letters : checking (bytes "5248") [] 1 1 [] ≡ record { number = 1; file = 1; offset = 0; value = 0 }
  -- each field: '2 bytes end before it is complete'
  pub incomplete : checking example-schema (bytes "50480064") 1 1 [] ≡ record { number = 2; file = 2; offset = 4; value = 0 }
  -- SH count: '3 zero or above 64'
  pub count-0 : checking (bytes "534800") [] 1 1 [] ≡ record { number = 3; file = 1; offset = 2; value = 0 }
  pub count-65 : checking (bytes "534841") [] 1 1 [] ≡ record { number = 3; file = 1; offset = 2; value = 0 }
  -- SN kind, c: '4 kind above 1; c above 8, or 0 under kind 0'
  pub kind_2 : checking (bytes "534801 534E02") [] 1 1 [] ≡ record { number = 4; file = 1; offset = 5; value = 0 }
  pub c-9 : checking (bytes "534801 534E0109") [] 1 1 [] ≡ record { number = 4; file = 1; offset = 6; value = 0 }
  pub c-0 : checking (bytes "534801 534E0000") [] 1 1 [] ≡ record { number = 4; file = 1; offset = 6; value = 0 }
  -- SN successor: '5 not ascending, not above own number, not below count'
  pub descending : checking (bytes "534803 534E01020201") [] 1 1 [] ≡ record { number = 5; file = 1; offset = 8; value = 0 }
  pub own-number : checking (bytes "534802 534E010100") [] 1 1 [] ≡ record { number = 5; file = 1; offset = 7; value = 0 }
  pub of-count : checking (bytes "534802 534E010102") [] 1 1 [] ≡ record { number = 5; file = 1; offset = 7; value = 0 }
  -- SN variables: '6 v above 4, type above 1, hi below lo, size 0 or above 32'
  pub v-5 : checking (bytes "534801 534E010005") [] 1 1 [] ≡ record { number = 6; file = 1; offset = 7; value = 0 }
  pub type-2 : checking (bytes "534801 534E01000102") [] 1 1 [] ≡ record { number = 6; file = 1; offset = 8; value = 0 }
  pub hi-below-lo : checking (bytes "534801 534E01000100 00000000 FFFFFFFF") [] 1 1 [] ≡ record { number = 6; file = 1; offset = 13; value = 0 }
  pub size-0 : checking (bytes "534801 534E0100010100") [] 1 1 [] ≡ record { number = 6; file = 1; offset = 9; value = 0 }
  pub size-33 : checking (bytes "534801 534E0100010121") [] 1 1 [] ≡ record { number = 6; file = 1; offset = 9; value = 0 }
  -- after schema or instance: '7 a byte remains (offset of that byte)'
  pub schema-remains : checking (example-schema ++ bytes "00") [] 1 1 [] ≡ record { number = 7; file = 1; offset = 29; value = 0 }
  pub instance-remains : checking example-schema [] 1 1 (bytes "494802 494E0002 494E02FF 00") ≡ record { number = 7; file = 4; offset = 11; value = 0 }
  -- before a 17th PH: '8 a byte remains (offset of that byte)'
  pub seventeenth : checking example-schema (sixteen-policies ++ bytes "FF") 1 1 [] ≡ record { number = 8; file = 2; offset = 112; value = 0 }
  -- PH last: '9 below first'
  pub last-below-first : checking example-schema (bytes "504800020001") 1 1 [] ≡ record { number = 9; file = 2; offset = 4; value = 0 }
  -- PN node: '10 not ascending or not below count'
  pub same-node : checking example-schema (bytes "50480064006402 504E000005 504E00") 1 1 [] ≡ record { number = 10; file = 2; offset = 14; value = 0 }
  pub node-of-count : checking example-schema (bytes "50480064006401 504E03") 1 1 [] ≡ record { number = 10; file = 2; offset = 9; value = 0 }
  -- PN mask: '11 a bit at or above size'
  pub bit-of-size : checking (bytes "534801 534E0100010105") (bytes "50480001000101 504E0000000020") 1 1 [] ≡ record { number = 11; file = 2; offset = 10; value = 0 }
  -- pass: '12 b below a or above a + 1; offset 0'
  pub b-below-a : checking example-schema example-policies 101 100 [] ≡ record { number = 12; file = 3; offset = 0; value = 0 }
  pub b-above : checking example-schema example-policies 100 102 [] ≡ record { number = 12; file = 3; offset = 0; value = 0 }
  -- IN node: '15 not the lowest reached node without an entry, or none is left'
  pub not-lowest : checking example-schema [] 1 1 (bytes "494802 494E01") ≡ record { number = 15; file = 4; offset = 5; value = 0 }
  pub none_left : checking example-schema [] 1 1 (bytes "494803 494E0002 494E02FF 494E01") ≡ record { number = 15; file = 4; offset = 13; value = 0 }
  -- IH m, after m entries: '15 a reached node has no entry; before 7'
  pub entry-missing : checking example-schema [] 1 1 (bytes "494801 494E0002 00") ≡ record { number = 15; file = 4; offset = 2; value = 0 }
  -- IN choice: '16 not as defined above'
  pub not-a-successor : checking example-schema [] 1 1 (bytes "494802 494E0003") ≡ record { number = 16; file = 4; offset = 6; value = 0 }
  pub choice-of-a-leaf : checking example-schema [] 1 1 (bytes "494802 494E0002 494E0202") ≡ record { number = 16; file = 4; offset = 10; value = 0 }
  -- IN value: '17 outside the schema's domain'
  pub out_of_range : checking example-schema [] 1 1 (bytes "494802 494E0001 494E01FF00000000") ≡ record { number = 17; file = 4; offset = 11; value = 0 }
  pub value-of-size : checking (bytes "534801 534E0100010105") [] 1 1 (bytes "494801 494E00FF05") ≡ record { number = 17; file = 4; offset = 7; value = 0 }
  -- checker, last: '18 first choice or value field that a policy in force forbids; file 4'
  pub choice-forbidden : checking example-schema (bytes "50480064006401 504E00FF00") 100 100 (bytes "494802 494E0001 494E01FF00000001") ≡ record { number = 18; file = 4; offset = 6; value = 0 }
  pub value-forbidden : checking example-schema example-policies 101 101 (bytes "494802 494E0001 494E01FF00000001") ≡ record { number = 18; file = 4; offset = 11; value = 0 }
  -- what is just within: the next field is asked for, or nothing is refused
  pub count-64 : checking (bytes "534840") [] 1 1 [] ≡ record { number = 2; file = 1; offset = 3; value = 0 }
  pub c-8 : checking (bytes "534809 534E0108") [] 1 1 [] ≡ record { number = 2; file = 1; offset = 7; value = 0 }
  pub of-last-node : checking (bytes "534802 534E010101") [] 1 1 [] ≡ record { number = 2; file = 1; offset = 8; value = 0 }
  pub v-4 : checking (bytes "534801 534E010004") [] 1 1 [] ≡ record { number = 2; file = 1; offset = 8; value = 0 }
  pub hi-of-lo : checking (bytes "534801 534E01000100 FFFFFFFF FFFFFFFF") [] 1 1 (bytes "494801 494E00FF FFFFFFFF") ≡ record { number = 0; file = 0; offset = 0; value = 0 }
  pub size-1 : checking (bytes "534801 534E0100010101") [] 1 1 (bytes "494801 494E00FF00") ≡ record { number = 0; file = 0; offset = 0; value = 0 }
  pub size_32 : checking (bytes "534801 534E0100010120") (bytes "50480001000101 504E00FFFFFFFF") 1 1 (bytes "494801 494E00FF1F") ≡ record { number = 0; file = 0; offset = 0; value = 0 }
  pub sixteenth : checking example-schema sixteen-policies 1 1 (bytes "494802 494E0002 494E02FF") ≡ record { number = 0; file = 0; offset = 0; value = 0 }
  pub last-days : checking example-schema example-policies 65535 65535 (bytes "494802 494E0001 494E01FF0000000A") ≡ record { number = 0; file = 0; offset = 0; value = 0 }
  pub bounds-met : checking example-schema example-policies 101 101 (bytes "494802 494E0001 494E01FF00000008") ≡ record { number = 0; file = 0; offset = 0; value = 0 }
  pub rank-254 : checking example-schema (bytes "50480064006401 504E00FE00") 100 100 (bytes "494802 494E0001 494E01FF00000001") ≡ record { number = 0; file = 0; offset = 0; value = 0 }
  -- policies have no count: a stray byte is a head's
  pub stray-byte : checking example-schema (example-policies ++ bytes "50") 1 1 [] ≡ record { number = 2; file = 2; offset = 35; value = 0 }
  pub stray-bytes : checking example-schema (example-policies ++ bytes "504E") 1 1 [] ≡ record { number = 1; file = 2; offset = 35; value = 0 }
  -- 'kind 0 has no ranks', nor has a leaf
  pub no-ranks : checking (bytes "534802 534E00010100 534E010000") (bytes "50480001000102 504E00 504E01") 1 1 (bytes "494802 494E00FF 494E01FF") ≡ record { number = 0; file = 0; offset = 0; value = 0 }
  -- 'files: 4 and 5 instances'
  pub second-file : comparing example-schema [] 1 1 (bytes "494802 494E0002 494E02FF") (bytes "49") ≡ record { number = 2; file = 5; offset = 0; value = 0 }
  -- 'a copying call takes schema and instance (file 4) and writes the instance it read, 14 last'
  pub copied :
      copying example-schema (bytes "494802 494E0002 494E02FF") (bytes "E0E1E2E3E4E5E6E7 E8E9EAEB")
      ≡ record { answer = record { number = 0; file = 0; offset = 0; value = 11 }; buffer = bytes "494802 494E0002 494E02FF EB" }
  pub copy-refused :
      copying example-schema (bytes "494802 494E0003") (bytes "E0E1")
      ≡ record { answer = record { number = 16; file = 4; offset = 6; value = 0 }; buffer = bytes "E0E1" }
  pub copy-short :
      copying example-schema (bytes "494802 494E0002 494E02FF") (bytes "E0E1")
      ≡ record { answer = record { number = 14; file = 0; offset = 0; value = 0 }; buffer = bytes "E0E1" }
  -- 02/1: 'the call takes schema and instance'; 'a buffer too short for it gets 14'
  pub sheet-written :
      sheeting example-schema (bytes "494802 494E0001 494E01FF00000004") (replicate 112 0xE0)
      ≡ record { answer = record { number = 0; file = 0; offset = 0; value = 110 }; buffer = codes " 0   1                                                \n" ++ codes " 1 ---           4                                    \n" ++ bytes "E0E0" }
  pub sheet-fits :
      sheeting example-schema (bytes "494802 494E0002 494E02FF") (replicate 110 0xE0)
      ≡ record { answer = record { number = 0; file = 0; offset = 0; value = 110 }; buffer = codes " 0   2                                                \n" ++ codes " 2 ---                                                \n" }
  pub sheet-refused :
      sheeting example-schema (bytes "494802 494E0003") (bytes "E0E1") ≡ record { answer = record { number = 16; file = 4; offset = 6; value = 0 }; buffer = bytes "E0E1" }
  pub sheet-short :
      sheeting example-schema (bytes "494802 494E0002 494E02FF") (replicate 109 0xE0)
      ≡ record { answer = record { number = 14; file = 0; offset = 0; value = 0 }; buffer = replicate 109 0xE0 }

pub rows : Rows
unfolding example-schema example-policies four-empty sixteen-policies judged spell part be whole field mark many ended bit successors links number listed variable variables variables_of node nodes body schema pass in_force forced rank_count ranks condition conditions rule_of rule rules head policy onward policies_from policies rule_for rank_of conditions_of reached due none_below lowest_due value_width value_of value values entry_of entry entries instance encode_value encode_values encode_entry chooses reaches right_choice in_domain has forbidden_value forbidden_entry forbidden_from forbidden column_of rank condition_at admits meets allowed admitted choice_meets half_of bytes_of codes lowered bytes with_schema with_policies with_pass with_in_force permitted checking_in_force checking comparing_in_force comparing delivering copying sheeting digits decimal right_aligned signed_decimal choice_column value_columns sheet_line sheet placed encode_entries encode
rows =
    record {
      wrong-letters = refl;
      lower-letters = refl;
      incomplete = refl;
      count-0 = refl;
      count-65 = refl;
      kind_2 = refl;
      c-9 = refl;
      c-0 = refl;
      descending = refl;
      own-number = refl;
      of-count = refl;
      v-5 = refl;
      type-2 = refl;
      hi-below-lo = refl;
      size-0 = refl;
      size-33 = refl;
      schema-remains = refl;
      instance-remains = refl;
      seventeenth = refl;
      last-below-first = refl;
      same-node = refl;
      node-of-count = refl;
      bit-of-size = refl;
      b-below-a = refl;
      b-above = refl;
      not-lowest = refl;
      none_left = refl;
      entry-missing = refl;
      not-a-successor = refl;
      choice-of-a-leaf = refl;
      out_of_range = refl;
      value-of-size = refl;
      choice-forbidden = refl;
      value-forbidden = refl;
      count-64 = refl;
      c-8 = refl;
      of-last-node = refl;
      v-4 = refl;
      hi-of-lo = refl;
      size-1 = refl;
      size_32 = refl;
      sixteenth = refl;
      last-days = refl;
      bounds-met = refl;
      rank-254 = refl;
      stray-byte = refl;
      stray-bytes = refl;
      no-ranks = refl;
      second-file = refl;
      copied = refl;
      copy-refused = refl;
      copy-short = refl;
      sheet-written = refl;
      sheet-fits = refl;
      sheet-refused = refl;
      sheet-short = refl;
    }
