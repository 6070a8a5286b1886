-- How far sums go: where each parcel has one entry and no amount is above the largest, a sum is at most the largest amount for
-- each parcel.
use Rattle.std.proofs.Common.{◌≡◌, ℕ, zero, suc, ◌+◌, ◌*◌, ◌≤◌, Bool, true, false, List, [], ◌∷◌, length, refl, ap, arith}
use Rattle.std.proofs.lemmas.Bool.Decides.{nat_tests}
use Rattle.parcels.specs.Numbers.{most_amount, most_parcels}
use Rattle.parcels.specs.Book.{pick, Book, has, own, was_handed_out, each_once, counted_here, how_many_here, collected_for, collected, paid_for, paid_out}
use Rattle.parcels.specs.Calls.{Limits, new_key, accepted_entry, left_entry, came_entry, paid_entry}
use Rattle.parcels.specs.Laws.{AmountFits, AmountsFit, SumsStayFit}
use Rattle.parcels.specs.declared.Kind.TheVariants.{HandedOut}
use Rattle.parcels.specs.declared.Entry.{Entry}
use Rattle.parcels.specs.declared.Call.{Call}
use Rattle.laws.proofs.Books.{each_put, each_parts, once_parts}
use Rattle.laws.proofs.Did.{Did, nothing, accepts, comes, leaves, pays, did, once_kept}

-- a sum of what each entry of a book adds
pub record IsSum (sum : Book → ℕ) (each : Entry → ℕ) : Type 0 where
  pub none : sum [] ≡ 0
  pub more : (e : Entry) (b : Book) → sum (e ∷ b) ≡ each e + sum b

pub how_many_here_is : IsSum how_many_here counted_here
unfolding how_many_here
how_many_here_is = record { none = refl; more = λ _ _. refl }

pub collected_is : IsSum collected collected_for
unfolding collected
collected_is = record { none = refl; more = λ _ _. refl }

pub paid_out_is : IsSum paid_out paid_for
unfolding paid_out
paid_out_is = record { none = refl; more = λ _ _. refl }

-- where each entry adds no more than its amount, all add at most so much for each parcel
amounts_most : {sum : Book → ℕ} {each : Entry → ℕ} → IsSum sum each → ((e : Entry) → each e ≤ e.amount) → (b : Book) → AmountsFit b → each_once b ≡ true → sum b ≤ most_amount * length b
amounts_most s part [] fit once = omega (arith, s.none)
amounts_most s part (e ∷ es) fit once =
    let (low, rest) = each_parts AmountFits e es once fit in
    omega (arith, s.more e es, part e, low, amounts_most s part es rest (once_parts e es once).1)

part_of : (t : Bool) (n : ℕ) → pick t n 0 ≤ n
part_of true n = omega arith
part_of false n = omega arith

collected_most : (b : Book) → AmountsFit b → each_once b ≡ true → collected b ≤ most_amount * length b
collected_most = amounts_most collected_is (λ e. part_of (was_handed_out e.kind) e.amount)

paid_out_most : (b : Book) → AmountsFit b → each_once b ≡ true → paid_out b ≤ most_amount * length b
paid_out_most = amounts_most paid_out_is (λ e. part_of e.paid e.amount)

-- each thing that a call does leaves no amount above the largest
kept : (l : Limits) (o : ℕ) (b : Book) {c : Call} {keys : List ℕ} {b' : Book} → Did l o b c keys b' → AmountsFit b → AmountsFit b'
kept l o b nothing fit = fit
kept l o b (accepts dest amount room low) fit = each_put AmountFits b (accepted_entry o (new_key o b) dest amount) fit low
kept l o b (comes s paid works room low) fit = each_put AmountFits b (came_entry o s paid) fit low
kept l o b (leaves key kind to there here most) fit = each_put AmountFits b (left_entry kind to (own b key)) fit (fit key there)
kept l o b (pays key there) fit = each_put AmountFits b (paid_entry (own b key)) fit (fit key there)

-- a parcel of the largest amount, handed out and paid for
abbrev large_entry : ℕ → Entry
large_entry key = record { key = key; step = 1; kind = HandedOut; to = 0; dest = 0; amount = most_amount; paid = true }

-- so many of them, with the keys from 0 on
unfoldable large_book : ℕ → Book
large_book zero = []
large_book (suc n) = large_entry n ∷ large_book n

large_new : (n key : ℕ) → n ≤ key → has (large_book n) key ≡ false
unfolding large_book has
large_new zero key far = refl
large_new (suc n) key far = grind (arith, nat_tests, large_new n key (omega arith))

large_once : (n : ℕ) → each_once (large_book n) ≡ true
unfolding large_book each_once
large_once zero = refl
large_once (suc n) = rw (large_new n n (omega arith)) (large_once n)

large_fit : (n : ℕ) → AmountsFit (large_book n)
unfolding large_book has own
large_fit zero key there = absurd (cc)
large_fit (suc n) key there = grind (arith, nat_tests, large_fit n key)

large_length : (n : ℕ) → length (large_book n) ≡ n
unfolding large_book
large_length zero = refl
large_length (suc n) = ap suc (large_length n)

large_sum : {sum : Book → ℕ} {each : Entry → ℕ} → IsSum sum each → ((key : ℕ) → each (large_entry key) ≡ most_amount) → (n : ℕ) → sum (large_book n) ≡ most_amount * n
unfolding large_book
large_sum s whole zero = s.none
large_sum s whole (suc n) = omega (arith, s.more (large_entry n) (large_book n), whole n, large_sum s whole n)

pub sums_stay_fit : SumsStayFit
unfolding has each_once
sums_stay_fit =
    record {
      empty = (λ key there. absurd (cc), refl);
      call = λ l o b c fit once. (kept l o b (did l o b c) fit, once_kept l o b c once);
      sums = λ b fit once. (collected_most b fit once, paid_out_most b fit once);
      most = λ b fit once few. (omega (arith, collected_most b fit once), omega (arith, paid_out_most b fit once));
      largest = (
        large_book most_parcels,
        large_fit most_parcels,
        large_once most_parcels,
        large_length most_parcels,
        large_sum collected_is (λ _. refl) most_parcels,
        large_sum paid_out_is (λ _. refl) most_parcels,
      );
      bytes = (omega arith, omega arith);
    }
