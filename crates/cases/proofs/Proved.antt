-- The worked cases hold. Assumes nothing.
use Rattle.std.proofs.Common.{◌≡◌, Bool, true, false, List, Some, None, refl, ap, ◌∙◌}
use Rattle.calls.specs.Refusals.{first_failed}
use Rattle.calls.specs.declared.Refusal.TheVariants.{SetsCover}
use Rattle.quorums.specs.ByList.{sets_of, listed_quorum, listed_checks}
use Rattle.quorums.specs.Lists.{completed}
use Rattle.quorums.specs.Sets.{Set, members, all}
use Rattle.quorums.specs.declared.listed.Listed.{Listed}
use Rattle.quorums.specs.declared.sets.ServerSet.{ServerSet}
use Rattle.timestamps.specs.PackedLaws.{packed_number}
use Rattle.timestamps.specs.PairedLaws.{paired_parts}
use Rattle.cases.specs.Samples.{servers, two_and_one, two_and_two, numbered, counted}
use Rattle.cases.specs.Worked.{Cases}

opened : first_failed (listed_checks 4 two_and_one) ≡ None
unfolding all
opened = refl

refused : first_failed (listed_checks 4 two_and_two) ≡ Some SetsCover
unfolding all
refused = refl

is_quorum : completed 4 two_and_one (members (servers 12)) ≡ true
unfolding all
is_quorum = refl

no_quorum : completed 4 two_and_one (members (servers 9)) ≡ false
unfolding all
no_quorum = refl

-- what four servers with listed sets answer, a system of them answers
asked : (q : Listed) (sets : List ServerSet) (s : Set) (answer : Bool) → q.n ≡ 4 → sets_of q ≡ sets → completed 4 sets s ≡ answer → listed_quorum q s ≡ answer
asked q sets s answer four same e = ap (λ n. completed n (sets_of q) s) four ∙ ap (λ l. completed 4 l s) same ∙ e

pub cases : Cases
cases = record {
  quorum_of_4_with_1_fault = refl;
  quorum_of_5_with_1_fault = refl;
  quorum_of_6_with_1_fault = refl;
  quorum_of_7_with_2_faults = refl;
  quorum_of_16_with_5_faults = refl;
  refused_3_with_1_fault = (refl, refl);
  opened_two_and_one = opened;
  quorum_outside_two = λ q n sets. asked q two_and_one (members (servers 12)) true n sets is_quorum;
  no_quorum_outside_none = λ q n sets. asked q two_and_one (members (servers 9)) false n sets no_quorum;
  refused_two_and_two = (refused, refl);
  packed_next_above_0 = packed_number (numbered 5 tt);
  packed_next_above_64 = packed_number (numbered 69 tt);
  packed_next_at_the_end = refl;
  paired_next_above_client_7 = paired_parts (counted 1 5 tt tt);
  paired_next_at_the_end = refl;
  late_store_confirmed = λ value number late write. refl;
  late_store_not_held = λ value number late write. refl;
}
