-- No more was paid out than was collected, all offices together: a parcel was paid for only at its origin, and only if it was
-- handed out, and where it was handed out its amount was collected.
use Rattle.std.proofs.Common.{◌≡◌, ℕ, ◌*◌, ◌<◌, ◌≤◌, ◌⊎◌, ◌&&◌, true, List, inl, inr, arith, Some}
use Rattle.std.proofs.lemmas.Bool.{cases_Bool, and_parts}
use Rattle.std.proofs.lemmas.Bool.Decides.{nat_tests}
use Rattle.parcels.specs.Numbers.{keys_of_an_office}
use Rattle.parcels.specs.Book.{Book, origin, has, own, each_once, collected_for, paid_for}
use Rattle.parcels.specs.declared.Kind.TheVariants.{HandedOut}
use Rattle.parcels.specs.declared.Slip.{Slip}
use Rattle.parcels.specs.declared.Entry.{Entry}
use Rattle.promises.specs.Truth.{truth, in_truth, Move}
use Rattle.promises.specs.World.{IsGiven}
use Rattle.promises.specs.Promise.{unknown, some_handed_out, over_offices, NoMorePaid}
use Rattle.promises.specs.Way.{MayBePaid, Way, WaysTrue}
use Rattle.laws.proofs.Sums.{collected_is, paid_out_is}
use Rattle.truths.proofs.Parcels.{AllKeys}
use Rattle.truths.proofs.Keys.{office_there, origins}
use Rattle.truths.proofs.Shelves.{shelves_and_sums}
use Rattle.ways.proofs.Turns.{step_same, handed_last}
use Rattle.ways.proofs.Each.{each_way}
use Rattle.ways.proofs.Totals.{total_at_most, one_in_total, one_is_total, of_key, over_books}

-- a parcel that was handed out is in the book of the office that did it so, with the amount that its origin's book has
pub out_where : {books : ℕ → Book} {IsOut : Slip → Type 0} {p : ℕ} {ms : List Move} → Way books IsOut p ms → some_handed_out ms ≡ true →
    (q : ℕ) × (has (books q) p ≡ true) × ((own (books q) p).kind ≡ HandedOut) × ((own (books q) p).amount ≡ (own (books (origin p)) p).amount)
out_where {books} {p = p} {ms = ms} way out =
    let (n, q, last, step) = handed_last (origin p) (Some unknown) ms way.in_turn out in
    let (held, late) = way.in_book n q HandedOut step in
    let e : Entry = own (books q) p in
    let as_told = way.entries q held in
    let same : e.step ≡ n = omega (arith, last, late, as_told.made.0) in
    (q, held, (step_same ms e.step n e.kind HandedOut q q as_told.made step same).0, as_told.goal.1)

-- of one parcel: the books that have it are of offices that are there
module _ (offices : ℕ) (books : ℕ → Book) (IsOut : Slip → Type 0) (p : ℕ) (ms : List Move) (way : Way books IsOut p ms) (there : (o : ℕ) → has (books o) p ≡ true → o < offices) where
  -- if it was handed out, its amount was collected where that was
  collected_where_out : some_handed_out ms ≡ true → (own (books (origin p)) p).amount ≤ over_offices offices (λ o. of_key collected_for (books o) p)
  collected_where_out out =
      let (q, held, kind, amount) = out_where way out in
      let whole : of_key collected_for (books q) p ≡ (own (books q) p).amount = rw (held, kind) in
      omega (arith, whole, amount, one_in_total offices (λ o. of_key collected_for (books o) p) q (there q held))

  -- an office may have paid for it, or it paid nothing for it
  paid_or_not : (o : ℕ) → MayBePaid ms p o ⊎ (of_key paid_for (books o) p ≡ 0)
  paid_or_not o =
      elim (cases_Bool (has (books o) p && (own (books o) p).paid)) [
        | inl did ↦ let (held, paid) = and_parts (has (books o) p) (own (books o) p).paid did in inl ((way.entries o held).paid paid)
        | inr not ↦ inr (grind (arith, not))
      ]

  -- so all that was paid for it was paid by its origin
  paid_at_origin : over_offices offices (λ o. of_key paid_for (books o) p) ≤ of_key paid_for (books (origin p)) p
  paid_at_origin =
      one_is_total offices (λ o. of_key paid_for (books o) p) (origin p) (λ o other. elim (paid_or_not o) [
        | inl (here, _) ↦ absurd (grind (arith, nat_tests, here))
        | inr nothing ↦ nothing
      ])

  -- so no more was paid out for it than was collected
  no_more_for_one : over_offices offices (λ o. of_key paid_for (books o) p) ≤ over_offices offices (λ o. of_key collected_for (books o) p)
  no_more_for_one =
      let home : Book = books (origin p) in
      let part : of_key paid_for home p ≤ (own home p).amount = grind arith in
      elim (paid_or_not (origin p)) [
        | inl (_, out) ↦ omega (arith, paid_at_origin, part, collected_where_out out)
        | inr nothing ↦ omega (arith, paid_at_origin, nothing)
      ]

-- a book's keys tell offices that are there, so they are below what those give out
key_below : (offices key : ℕ) → origin key < offices → key < keys_of_an_office * offices
key_below offices key there = omega arith

-- no more was paid out than was collected, all offices together
pub no_more_paid : NoMorePaid
no_more_paid can l xs g h =
    let ways : WaysTrue l xs = each_way can l xs g h in
    let bound : ℕ = keys_of_an_office * l.offices in
    let books : ℕ → Book = truth l xs in
    let once : (o : ℕ) → each_once (books o) ≡ true = λ o. (shelves_and_sums can l xs o g h).once in
    let low : (o : ℕ) → AllKeys (λ key. key < bound) (books o) = λ o key held. key_below l.offices key (origins g.2 h o key held) in
    omega (
      arith,
      over_books paid_out_is bound l.offices books once low,
      over_books collected_is bound l.offices books once low,
      total_at_most bound (λ key. over_offices l.offices (λ o. of_key paid_for (books o) key)) (λ key. over_offices l.offices (λ o. of_key collected_for (books o) key))
          (λ key. no_more_for_one l.offices books (λ s. IsGiven s xs) key (in_truth l xs key) (ways key) (λ o. office_there h o key)),
    )
