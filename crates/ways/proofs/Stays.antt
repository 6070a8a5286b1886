-- A parcel that makes no step keeps its way: its entries stay as they were, but that it may be paid for where it was handed out;
-- and no slip of it is given out that wasn't before.
use Rattle.std.proofs.Common.{◌≡◌, ℕ, Bool, true, List, sym, ◌∙◌, subst, ◌⊎◌, inl, inr}
use Rattle.parcels.specs.Book.{Book, origin, has, own}
use Rattle.parcels.specs.Calls.{slip_from}
use Rattle.parcels.specs.declared.Slip.{Slip}
use Rattle.parcels.specs.declared.Entry.{Entry}
use Rattle.promises.specs.Truth.{Move}
use Rattle.promises.specs.Way.{MayBePaid, EntryTrue, Way}

-- an entry, paid for or not
abbrev pub paid_as : Bool → Entry → Entry
paid_as t e = record e { paid = t }

entry_stays : (ms : List Move) (IsOut IsOut' : Slip → Type 0) (home : Entry) (p o : ℕ) (e : Entry) (t u : Bool) → (t ≡ true → MayBePaid ms p o) → ((s : Slip) → IsOut s → IsOut' s) →
    EntryTrue ms IsOut home p o e → EntryTrue ms IsOut' (paid_as u home) p o (paid_as t e)
entry_stays ms IsOut IsOut' home p o e t u pays still x =
    record { made = x.made; here = x.here; slip_out = λ is. still (slip_from o e) (x.slip_out is); handed_out = x.handed_out; paid = pays; goal = x.goal }

-- what a book has of a parcel after something else happened: what it had, but paid for or not; and paid only where it may be
pub record Stays (b b' : Book) (ms : List Move) (p o : ℕ) : Type 0 where
  pub has_same : has b' p ≡ has b p
  pub is_paid : Bool
  pub own_same : own b' p ≡ paid_as is_paid (own b p)
  pub pays : is_paid ≡ true → ((own b p).paid ≡ true) ⊎ MayBePaid ms p o

module _ (books books' : ℕ → Book) (IsOut IsOut' : Slip → Type 0) (p : ℕ) (ms : List Move) (same : (o : ℕ) → Stays (books o) (books' o) ms p o)
    (still : (s : Slip) → IsOut s → IsOut' s) (none : (s : Slip) → IsOut' s → s.key ≡ p → IsOut s) (was : Way books IsOut p ms) where
  had : (o : ℕ) → has (books' o) p ≡ true → has (books o) p ≡ true
  had o there = sym ((same o).has_same) ∙ there

  pays : (o : ℕ) → has (books o) p ≡ true → (same o).is_paid ≡ true → MayBePaid ms p o
  pays o there is = elim ((same o).pays is) [ inl paid ↦ (was.entries o there).paid paid | inr may ↦ may ]

  entries : (o : ℕ) → has (books' o) p ≡ true → EntryTrue ms IsOut' (own (books' (origin p)) p) p o (own (books' o) p)
  entries o there =
      subst (λ home. EntryTrue ms IsOut' home p o (own (books' o) p)) (sym (same (origin p)).own_same)
      (subst (λ e. EntryTrue ms IsOut' (paid_as (same (origin p)).is_paid (own (books (origin p)) p)) p o e) (sym (same o).own_same)
      (entry_stays ms IsOut IsOut' (own (books (origin p)) p) p o (own (books o) p) (same o).is_paid (same (origin p)).is_paid (pays o (had o there)) still (was.entries o (had o there))))

  pub way_stays : Way books' IsOut' p ms
  way_stays =
      record {
        in_turn = was.in_turn;
        in_book = λ n o kind step. let (there, low) = was.in_book n o kind step in ((same o).has_same ∙ there, rw ((same o).own_same) low);
        entries = entries;
        slips = λ s out is. let x = was.slips s (none s out is) is in record { sent = x.sent; came = x.came; goal = rw ((same (origin p)).own_same) x.goal };
        no_two = λ s t out out' is is'. was.no_two s t (none s out is) (none t out' is') is is';
      }
