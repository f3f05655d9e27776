-- Worked cases, each an equation over the definitions.
use Rattle.std.specs.Prelude.{◌≡◌, ℕ, true, false, [], ◌∷◌, Some, None}
use Rattle.calls.specs.Refusals.{first_failed, number_of}
use Rattle.calls.specs.declared.Refusal.TheVariants.{SystemSize, SetsCover}
use Rattle.quorums.specs.ByCount.{needed, threshold_checks}
use Rattle.quorums.specs.ByList.{sets_of, listed_quorum, listed_checks}
use Rattle.quorums.specs.Sets.{members}
use Rattle.quorums.specs.declared.listed.Listed.{Listed}
use Rattle.timestamps.specs.PackedOrder.{packed_successor}
use Rattle.timestamps.specs.PairedOrder.{paired_successor}
use Rattle.values.specs.TotalValues.{no_pence}
use Rattle.values.specs.declared.total.Total.{Total}
use Rattle.cases.specs.Samples.{servers, two_and_one, two_and_two, numbered, counted, listening_from_69, about_5, late_store}

-- A quorum is counted, listed sets are asked and refused, next timestamps are chosen, and a late STORE is only confirmed.
pub record Cases : Type 0 where
  pub quorum_of_4_with_1_fault : needed 4 1 ≡ 3
  pub quorum_of_5_with_1_fault : needed 5 1 ≡ 4
  pub quorum_of_6_with_1_fault : needed 6 1 ≡ 4
  pub quorum_of_7_with_2_faults : needed 7 2 ≡ 5
  pub quorum_of_16_with_5_faults : needed 16 5 ≡ 11
  pub refused_3_with_1_fault : (first_failed (threshold_checks 3 1) ≡ Some SystemSize) × (number_of SystemSize ≡ 1)
  pub opened_two_and_one : first_failed (listed_checks 4 two_and_one) ≡ None
  pub quorum_outside_two : (q : Listed) → q.n ≡ 4 → sets_of q ≡ two_and_one → listed_quorum q (members (servers 12)) ≡ true
  pub no_quorum_outside_none : (q : Listed) → q.n ≡ 4 → sets_of q ≡ two_and_one → listed_quorum q (members (servers 9)) ≡ false
  pub refused_two_and_two : (first_failed (listed_checks 4 two_and_two) ≡ Some SetsCover) × (number_of SetsCover ≡ 3)
  pub packed_next_above_0 : packed_successor 5 (numbered 0 tt) (numbered 0 tt) ≡ Some (numbered 5 tt)
  pub packed_next_above_64 : packed_successor 5 (numbered 64 tt) (numbered 0 tt) ≡ Some (numbered 69 tt)
  pub packed_next_at_the_end : packed_successor 62 (numbered 18446744073709551614 tt) (numbered 0 tt) ≡ None
  pub paired_next_above_client_7 : paired_successor 5 (counted 0 7 tt tt) (counted 0 0 tt tt) ≡ Some (counted 1 5 tt tt)
  pub paired_next_at_the_end : paired_successor 5 (counted 4294967295 5 tt tt) (counted 0 0 tt tt) ≡ None
  pub late_store_confirmed : (value : Total) (number : ℕ) (late : Total) (write : ℕ) → (late_store value number late write).sent ≡ about_5 4 write no_pence ∷ []
  pub late_store_not_held : (value : Total) (number : ℕ) (late : Total) (write : ℕ) → (late_store value number late write).after ≡ listening_from_69 value number
