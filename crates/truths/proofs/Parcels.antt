-- Which parcels a book has after a call, and which key is given out by it.
use Rattle.std.proofs.Common.{◌≡◌, ℕ, true, eqb, eqb-true, inl, inr, List, [], ◌∷◌, None, Ok, Err, refl, sym, subst, arith}
use Rattle.std.proofs.lemmas.Bool.{cases_Bool}
use Rattle.parcels.specs.Book.{pick, Book, has, own, with_own, has_room}
use Rattle.parcels.specs.Calls.{Limits, checked, after, changed, told, answered, not_refused, new_key, accepted_entry, left_entry, came_entry, paid_entry}
use Rattle.parcels.specs.Laws.{number_in}
use Rattle.parcels.specs.declared.Slip.{Slip}
use Rattle.parcels.specs.declared.Entry.{Entry}
use Rattle.parcels.specs.declared.Call.{Call}
use Rattle.parcels.specs.declared.Call.TheVariants.{Accept, Send, SlipAgain, TakeIn, HandOut, Pay, WhereIs, Here, Sums}
use Rattle.parcels.specs.declared.Reason.TheVariants.{OverLimit}
use Rattle.parcels.specs.declared.Answer.{Answer}
use Rattle.wire.specs.Calls.{Reading}
use Rattle.promises.specs.World.{Said}
use Rattle.promises.specs.Truth.{book_then, truth}
use Rattle.promises.specs.Promise.{RightRow}
use Rattle.promises.specs.Beside.{row_key_told}
use Rattle.laws.proofs.Books.{own_key, has_put, has_new}
use Rattle.laws.proofs.Calls.{passed, if_taken}
use Rattle.laws.proofs.Did.{Did, nothing, accepts, comes, leaves, pays, did}

-- something is so of each key in a book
abbrev pub AllKeys : (ℕ → Type 0) → Book → Type 0
AllKeys K b = (key : ℕ) → has b key ≡ true → K key

module _ (K : ℕ → Type 0) (b : Book) (old : AllKeys K b) where
  put : (e : Entry) → K e.key → AllKeys K (with_own b e)
  put e new key there =
      elim (cases_Bool (eqb e.key key)) [
        | inl same ↦ subst K (eqb-true e.key key same) new
        | inr other ↦ let had : has b key ≡ true = grind (arith, has_put b e key) in old key had
      ]

  brings : (l : Limits) (o : ℕ) {c : Call} {keys : List ℕ} {b' : Book} → Did l o b c keys b' → (has_room l.parcels b ≡ true → K (new_key o b)) → ((s : Slip) → c ≡ TakeIn s → K s.key) → AllKeys K b'
  brings l o nothing new slip = old
  brings l o (accepts dest amount room _) new slip = put (accepted_entry o (new_key o b) dest amount) (new room)
  brings l o (comes s paid works room _) new slip = put (came_entry o s paid) (slip s refl)
  brings l o (leaves key kind to there here most) new slip = put (left_entry kind to (own b key)) (subst K (sym (own_key b key there)) (old key there))
  brings l o (pays key there) new slip = put (paid_entry (own b key)) (subst K (sym (own_key b key there)) (old key there))

  -- what is so of each key in a book, of the one that a slip brings, and of the next new one, is so of each key after a call
  pub call_brings : (l : Limits) (o : ℕ) (c : Call) → (has_room l.parcels b ≡ true → K (new_key o b)) → ((s : Slip) → c ≡ TakeIn s → K s.key) → AllKeys K (after l o b c)
  call_brings l o c = brings l o (did l o b c)

-- the key that an answer gives out, and the book after it: none; or the next new one, of a parcel that there is room for,
-- and that the book then has
pub data GivesKey (l : Limits) (o : ℕ) (b : Book) (b' : Book) : List ℕ → Type 0 where
  none : GivesKey l o b b' []
  one : has_room l.parcels b ≡ true → has b' (new_key o b) ≡ true → GivesKey l o b b' (new_key o b ∷ [])

accept_told : (l : Limits) (o : ℕ) (b : Book) (dest amount : ℕ) → let a : Answer = answered l o b (Accept dest amount) in GivesKey l o b (pick (not_refused a) (after l o b (Accept dest amount)) b) (number_in a)
unfolding checked changed told
accept_told l o b dest amount =
    if_taken l o b (Accept dest amount) (λ x a. GivesKey l o b (pick (not_refused a) x b) (number_in a)) (λ _. none)
    (λ _ free. one (passed (has_room l.parcels b) None OverLimit free).0 (has_new b (accepted_entry o (new_key o b) dest amount)))

-- so it is with each right answer
pub gives_key : (l : Limits) (xs : List Said) (o : ℕ) (r : Reading) (a : Answer) → RightRow l xs o r a → GivesKey l o (truth l xs o) (book_then l o (truth l xs o) r a) (row_key_told r a)
gives_key l xs o (Ok (Accept dest amount)) a right =
    let b : Book = truth l xs o in
    subst (λ (x : Answer). GivesKey l o b (pick (not_refused x) (after l o b (Accept dest amount)) b) (number_in x)) (sym right) (accept_told l o b dest amount)
gives_key l xs o (Ok (Send key to)) a right = none
gives_key l xs o (Ok (SlipAgain key)) a right = none
gives_key l xs o (Ok (TakeIn s)) a right = none
gives_key l xs o (Ok (HandOut key)) a right = none
gives_key l xs o (Ok (Pay key)) a right = none
gives_key l xs o (Ok (WhereIs key)) a right = none
gives_key l xs o (Ok (Here from)) a right = none
gives_key l xs o (Ok Sums) a right = none
gives_key l xs o (Err e) a right = none
