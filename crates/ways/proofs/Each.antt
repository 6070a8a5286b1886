-- What is so of each parcel is so whatever happened.
use Rattle.std.proofs.Common.{◌≡◌, ℕ, ◌≤◌, true, false, List, [], refl, arith}
use Rattle.parcels.specs.Numbers.{most_parcels}
use Rattle.parcels.specs.Book.{origin, has, has_room}
use Rattle.parcels.specs.Calls.{Limits, new_key as next_key}
use Rattle.parcels.specs.declared.Answer.{Answer}
use Rattle.wire.specs.Calls.{Reading}
use Rattle.promises.specs.World.{Said, IsGiven, IsRowKnown}
use Rattle.promises.specs.Truth.{truth, in_truth}
use Rattle.promises.specs.Promise.{RightRow, Happened, nothing_yet, and_then, in_turn}
use Rattle.promises.specs.Way.{WaysTrue, EachWay}
use Rattle.laws.proofs.Keys.{accepted_small, new_parts}
use Rattle.truths.proofs.Keys.{new_key_free}
use Rattle.ways.proofs.Does.{Does, does}
use Rattle.ways.proofs.Keeps.{keeps}

-- at the start there are no steps, no entries and no slips
nothing : (l : Limits) → WaysTrue l []
unfolding truth in_truth has in_turn IsGiven
nothing l p =
    record {
      in_turn = refl;
      in_book = λ n o kind step. absurd (omega (arith, step.0));
      entries = λ o there. absurd (cc);
      slips = λ s out _. absurd out;
      no_two = λ s t out _ _ _ _. absurd out;
    }

module _ {l : Limits} (limit : l.parcels ≤ most_parcels) where
  -- the next new key is this office's, and no parcel in its book has it
  new_key : {xs : List Said} → Happened l xs → (o : ℕ) → has_room l.parcels (truth l xs o) ≡ true → let key : ℕ = next_key o (truth l xs o) in (origin key ≡ o) × (has (truth l xs o) key ≡ false)
  new_key {xs} h o room = ((new_parts o _ (truth l xs o) refl (accepted_small o l.parcels (truth l xs o) room limit)).0, new_key_free limit h o room)

  pub ways_true : {xs : List Said} → Happened l xs → WaysTrue l xs
  ways_true nothing_yet = nothing l
  ways_true (and_then {xs} o r a before there fits known right) = keeps l xs o r a (does l xs o (ways_true before) r a (new_key before o) known right) (ways_true before)

  -- and what an office does by an answer is one of the three things
  pub does_one : {xs : List Said} → Happened l xs → (o : ℕ) (r : Reading) (a : Answer) → IsRowKnown r xs → RightRow l xs o r a → Does l xs o r a
  does_one {xs} h o r a known right = does l xs o (ways_true h) r a (new_key h o) known right

pub each_way : EachWay
each_way can l xs g h = ways_true g.2 h
