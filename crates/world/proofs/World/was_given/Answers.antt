use Rattle.std.proofs.Common.{◌≡◌, List, vec_items, rules, tests}
use Rattle.std.proofs.lemmas.Bool.{MatchBool-at_true}
use Rattle.std.proofs.lemmas.Iterator.{cases_from_any, YieldsList-from_slice}
use Rattle.std.proofs.lemmas.Iterator.Search.{true_from_Any}
use Rattle.parcels.specs.declared.Answer.TheVariants.{Given}
use Rattle.world.specs.declared.Exchange.{Exchange}
use Rattle.world.proofs.Journal.{given_by, given_at}
use Rattle.world.proofs.World.was_given.Goals as goal

pub returns : goal.returns
returns c =
    let xs : List Exchange = vec_items c.args.self.now.journal in
    let found = cases_from_any _ _ _ (λ (x : Exchange). x.answer ≡ Given c.args.slip) (λ (x : Exchange). x.answer ≡ Given c.args.slip → ⊥) c.any.ensures.ran (YieldsList-from_slice xs cc) (λ x q k. search (rules, tests)) (λ x q k. search (rules, tests)) in (
      λ t. let w = MatchBool-at_true _ _ t found in given_at c.args.slip xs w.0 w.1 w.2,
      λ g. let (x, there, e) = given_by c.args.slip xs g in true_from_Any (λ (x : Exchange). x.answer ≡ Given c.args.slip) (λ (x : Exchange). x.answer ≡ Given c.args.slip → ⊥) _ _ (λ y p q. q p) found x there e,
    )
