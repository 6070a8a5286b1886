use Rattle.std.proofs.Common.{◌≡◌, ℕ, ◌+◌, ◌<◌, ◌≤◌, max, true, List, get_or, vec_items, vec_len, sym, refl, ◌∙◌, subst, arith, below_more}
use Rattle.std.proofs.lemmas.Bool.Decides.{nat_tests}
use Rattle.book.specs.Opening.{in_range}
use Rattle.moves.specs.Stage.{stage_limits}
use Rattle.session.specs.Exchanging.{Begun}
use Rattle.world.specs.declared.station.Station.{Station}
use Rattle.world.specs.Stations.{words_of, IsOpened}
use Rattle.letters.specs.Envelope.{letters_in}
use Rattle.letters.proofs.Row.{none_in}
use Rattle.promises.specs.World.{Lived}
use Rattle.theorems.specs.Ours.{ours}
use Rattle.world.specs.Journal.{world_of}
use Rattle.world.proofs.Happens.{begins}
use Rattle.world.proofs.World.open.Goals as goal

abbrev IsOpen : Station → ℕ → ℕ → ℕ → Type 0
IsOpen x n k p = IsOpened x.opening n k p × Begun (stage_limits n p) k (words_of x)

-- one office more
begun_more : (n p i m : ℕ) (xs ys : List Station) (x : Station) → m ≡ i → IsOpen x n i p → ((k : ℕ) (d : Station) → k < m → get_or ys k d ≡ get_or xs k d) →
    ((d : Station) → get_or ys m d ≡ x) → ((k : ℕ) (d : Station) → k < i → IsOpen (get_or xs k d) n k p) → (k : ℕ) (d : Station) → k < i + 1 → IsOpen (get_or ys k d) n k p
begun_more n p i m xs ys x e is before last inv k d h =
    below_more (λ k. IsOpen (get_or ys k d) n k p) i (λ k h. subst (λ (y : Station). IsOpen y n k p) (sym (before k d (omega arith))) (inv k d h))
    (subst (λ (j : ℕ). IsOpen (get_or ys j d) n i p) e (subst (λ (y : Station). IsOpen y n i p) (sym (last d)) is)) k h

from_first : (n o p : ℕ) → in_range n o p ≡ true → in_range n 0 p ≡ true
from_first n o p h = grind (arith, nat_tests)

pub loop-own-preserved : goal.loop-own-preserved
loop-own-preserved c = (
  omega (arith, c.in_ok-push.ensures.len, c.loop-own.invariant.0),
  begun_more c.args.offices c.args.parcels c.loop-own.own (vec_len c.loop-own.opened) (vec_items c.loop-own.opened) (vec_items c.push.new.self) c.in_ok-station.station
      c.loop-own.invariant.0 (c.in_ok-station.ensures.1, c.in_ok-station.ensures.2) c.in_ok-push.ensures.by_index.0 (λ d. c.in_ok-push.ensures.by_index.1 d refl) c.loop-own.invariant.1,
  λ _. from_first c.args.offices c.loop-own.own c.args.parcels c.in_ok-station.ensures.0,
)

-- all are open, where the first could be
all_open : (n p i m : ℕ) → m ≡ max n 1 → m ≤ i → i ≤ m → (0 < i → in_range n 0 p ≡ true) → (i ≡ n) × (in_range n 0 p ≡ true)
all_open n p i m e h g r = let k : in_range n 0 p ≡ true = r (grind (arith, nat_tests)) in (grind (arith, nat_tests), k)

whole : (c : goal.After-new-2) → (vec_len c.loop-own.opened ≡ c.args.offices) × (in_range c.args.offices 0 c.args.parcels ≡ true)
whole c =
    let all = all_open c.args.offices c.args.parcels c.loop-own.own c.max-own-end.result c.max-own-end.ensures c.loop-own-test.false c.loop-own.auto.own-end c.loop-own.invariant.2 in
    (c.loop-own.invariant.0 ∙ all.0, all.1)

pub invariant_of-result : goal.invariant_of-result
invariant_of-result c =
    let all : vec_len c.loop-own.opened ≡ c.args.offices = (whole c).0 in
    record {
      good = rw all (whole c).1;
      numbered = λ k d h. rw all (c.loop-own.invariant.1 k d (omega (arith, c.loop-own.invariant.0, h))).0;
      room = rw (all, c.in_ok-lent.ensures.len, c.max.ensures) (omega arith);
      lived = subst (λ (n : ℕ). ∥ Lived ours (stage_limits n c.args.parcels) (world_of (vec_items c.loop-own.opened) (letters_in (vec_items c.new.result.envelopes)) (vec_items c.new-2.result)) ∥₁) (sym all)
          (begins c.args.offices c.args.parcels (vec_items c.loop-own.opened) (letters_in (vec_items c.new.result.envelopes)) (vec_items c.new-2.result) (sym c.loop-own.opened.ok.0 ∙ all) (λ k d h. (c.loop-own.invariant.1 k d (omega (arith, c.loop-own.invariant.0, all, h))).1) (none_in (vec_items c.new.result.envelopes) c.new.ensures) c.new-2.ensures.items);
    }
