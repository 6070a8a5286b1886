-- What is so of every office, whatever happened: one induction over it, and what follows by it; and that no letter is sent.
use Rattle.std.proofs.Common.{◌≡◌, ℕ, ◌<◌, Bool, true, false, eqb, List, [], refl, sym, ap, ◌∙◌, subst, arith, eqb-true}
use Rattle.std.proofs.lemmas.Bool.Decides.{nat_tests}
use Rattle.parcels.specs.Book.{pick}
use Rattle.parcels.specs.Calls.{Limits}
use Rattle.parcels.specs.declared.Answer.{Answer}
use Rattle.wire.specs.Calls.{Reading}
use Rattle.promises.specs.World.{Memory, Said, World, Lived, opened, called, heard, ticked, with_memory}
use Rattle.session.specs.Answering.{Done}
use Rattle.truths.proofs.Books.{and_said}
use Rattle.session.specs.Exchanging.{WordsFit, FewWords, Begun}
use Rattle.theorems.specs.Ours.{ours}

apart : (o q : ℕ) → eqb o q ≡ false → eqb q o ≡ false
apart o q other = grind (arith, nat_tests)

-- one office's memory changed: what is so of it there, and of the others' as they were, is so of each
one_changed : (P : Memory → Type 0) (ms : ℕ → Memory) (q : ℕ) (m : Memory) (o : ℕ) → (o ≡ q → P m) → (eqb q o ≡ false → P (ms o)) → P (with_memory ms q m o)
one_changed P ms q m o here elsewhere = go (eqb o q) refl
  where
    go : (t : Bool) → eqb o q ≡ t → P (pick t m (ms o))
    go true e = here (eqb-true o q e)
    go false e = elsewhere (apart o q e)

-- where it was put back as it was, all are as they were
none_changed : (ms : ℕ → Memory) (q : ℕ) (m : Memory) (o : ℕ) → m ≡ ms q → with_memory ms q m o ≡ ms o
none_changed ms q m o same = one_changed (λ n. n ≡ ms o) ms q m o (λ is. same ∙ ap ms (sym is)) (λ _. refl)

-- what is so of an office's fresh memory, where nothing was said, and stays so by each call at it and at others, is so of
-- every office, whatever happened
module _ {l : Limits} (P : List Said → ℕ → Memory → Type 0) (begun : (o : ℕ) (m : Memory) → Begun l o m → P [] o m)
    (here : (xs : List Said) (o : ℕ) (m : Memory) (r : Reading) (a : Answer) (n : Memory) → Done l o m r a n → WordsFit n → P xs o m → P (and_said o r a xs) o n)
    (elsewhere : (xs : List Said) (o q : ℕ) (m : Memory) (r : Reading) (a : Answer) → eqb q o ≡ false → P xs o m → P (and_said q r a xs) o m) where
  pub everywhere : {w : World} → Lived ours l w → (o : ℕ) → o < l.offices → P w.said o (w.memory o)
  everywhere (opened ms begins) o there = begun o (ms o) (begins o there)
  everywhere (called {w = u} q r m a ls v in' fits known (done, words, _)) o there =
      one_changed (P (and_said q r a u.said) o) u.memory q m o
      (λ is. subst (λ p. P (and_said q r a u.said) p m) (sym is) (here u.said q (u.memory q) r a m done words (everywhere v q in')))
      (λ other. elsewhere u.said o q (u.memory o) r a other (everywhere v o there))
  everywhere (heard {w = u} x m ls v sent in' (same, _)) o there = subst (P u.said o) (sym (none_changed u.memory x.to m o same)) (everywhere v o there)
  everywhere (ticked {w = u} q m ls v in' (same, _)) o there = subst (P u.said o) (sym (none_changed u.memory q m o same)) (everywhere v o there)

-- memory is no larger than may be lent, and its words fit
abbrev pub Kept : ℕ → Memory → Type 0
Kept parcels m = FewWords parcels m × WordsFit m

pub memory_kept : {l : Limits} {w : World} → Lived ours l w → (o : ℕ) → o < l.offices → Kept l.parcels (w.memory o)
memory_kept {l} =
    everywhere (λ xs o m. Kept l.parcels m) (λ o m x. (x.size, x.words)) (λ xs o m r a n done words (size, _). (omega (arith, done.elsewhere.size, size), words)) (λ xs o q m r a other k. k)

-- no letter is ever sent
pub no_letter : {l : Limits} {w : World} → Lived ours l w → w.sent ≡ []
no_letter (opened ms begins) = refl
no_letter (called q r m a ls v in' fits known (_, _, none)) = rw (none, no_letter v)
no_letter (heard x m ls v sent in' (_, none)) = rw (none, no_letter v)
no_letter (ticked q m ls v in' (_, none)) = rw (none, no_letter v)
