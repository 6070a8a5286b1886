use Rattle.std.proofs.Common.{◌∙◌, ap, sym, subst}
use Rattle.std.proofs.lemmas.Bool.{or_left}
use Rattle.parcels.specs.Book.{pick, with_own}
use Rattle.rows.specs.Layout.{book_at}
use Rattle.book.specs.Search.{RowOf}
use Rattle.book.proofs.Kept.{steps_kept}
use Rattle.book.proofs.Book.put_at.Goals as goal

pub invariant_of-self : goal.invariant_of-self
invariant_of-self c =
    let put = c.change.ensures c.args.self.now.opening.own c.args.self.now.opening.parcels c.args.self.now.sound in
    record { sound = put.sound; steps = steps_kept c.args.self.now.memory.now c.change.new.memory c.args.entry put.after c.args.self.now.steps c.requires.fits }

pub returns-in-Ok-clause-after : goal.returns-in-Ok-clause-after
returns-in-Ok-clause-after c =
    let (_, _, has, _) = subst (RowOf c.args.self.now.memory.now c.args.entry.key) c.in-Ok.is (subst (λ k. RowOf c.args.self.now.memory.now k c.args.place.row) c.requires.key c.requires.place.there) in
    (c.change.ensures c.args.self.now.opening.own c.args.self.now.opening.parcels c.args.self.now.sound).after
    ∙ ap (λ t. pick t (with_own (book_at c.args.self.now.memory.now) c.args.entry) (book_at c.args.self.now.memory.now)) (sym (or_left _ _ has))

pub returns-in-Ok-clause-elsewhere : goal.returns-in-Ok-clause-elsewhere
returns-in-Ok-clause-elsewhere c = (c.change.ensures c.args.self.now.opening.own c.args.self.now.opening.parcels c.args.self.now.sound).elsewhere
