-- What can be told of sums and of the parcels at an office, by each office's book in truth.
use Rattle.std.proofs.Common.{◌≡◌, ℕ, zero, suc, ◌*◌, ◌<◌, ◌≤◌, true, length, List, arith}
use Rattle.std.proofs.lemmas.Bool.{and_parts}
use Rattle.parcels.specs.Numbers.{most_offices, most_parcels, keys_of_an_office}
use Rattle.parcels.specs.Book.{Book, origin, has, each_once, first_here}
use Rattle.parcels.specs.Calls.{Limits}
use Rattle.parcels.specs.Laws.{AmountsFit}
use Rattle.parcels.specs.Shelf.{FirstTold, asked_on}
use Rattle.promises.specs.World.{Said}
use Rattle.promises.specs.Truth.{truth}
use Rattle.promises.specs.Promise.{Happened}
use Rattle.promises.specs.Beside.{ShelvesAndSums}
use Rattle.laws.proofs.Sums.{sums_stay_fit}
use Rattle.laws.proofs.Shelf.{shelves_listed}
use Rattle.truths.proofs.Books.{each_book}
use Rattle.truths.proofs.Parcels.{AllKeys}
use Rattle.truths.proofs.Keys.{few_parcels, origins}

-- no amount is above the largest, and each parcel has one entry
amounts_fit_once : {l : Limits} {xs : List Said} → Happened l xs → (o : ℕ) → AmountsFit (truth l xs o) × (each_once (truth l xs o) ≡ true)
amounts_fit_once {l} = each_book (λ _ b. AmountsFit b × (each_once b ≡ true)) (λ _. sums_stay_fit.empty) (λ o b c _ (fit, once). sums_stay_fit.call l o b c fit once)

-- where each key in a book tells one of sixteen offices, what was answered is no further than these offices' keys
asked_low : (b : Book) → each_once b ≡ true → AllKeys (λ key. origin key < most_offices) b → (n : ℕ) → asked_on b n ≤ most_offices * keys_of_an_office
unfolding asked_on
asked_low b once low zero = omega arith
asked_low b once low (suc n) = go (first_here b (asked_on b n)) (shelves_listed.told b (asked_on b n) once)
  where
    go : (r : ℕ) → FirstTold b (asked_on b n) r → r ≤ most_offices * keys_of_an_office
    go zero told = omega arith
    go (suc key) told = omega (arith, low key (and_parts (has b key) _ told.here).0)

pub shelves_and_sums : ShelvesAndSums
shelves_and_sums can l xs o g h =
    let b : Book = truth l xs o in
    let (fit, once) = amounts_fit_once h o in
    let few : length b ≤ most_parcels = omega (arith, few_parcels g.2 h o, g.2) in
    record {
      once = once;
      few = few;
      amounts = fit;
      sums = sums_stay_fit.most b fit once few;
      first = λ from. shelves_listed.told b from once;
      listed = shelves_listed.listed b once;
      can_ask = λ n. omega (arith, asked_low b once (λ key there. omega (arith, origins g.2 h o key there, g.1)) n);
    }
