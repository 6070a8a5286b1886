-- What an office of a world does can happen, and its answer is right.
use Rattle.std.proofs.Common.{◌≡◌, ℕ, zero, suc, ◌*◌, ◌<◌, true, List, [], ◌∷◌, ◌++◌, length, take, map, get_or, set, refl, sym, ap, ◌∙◌, subst, inl, inr, append-nil, arith, Ok}
use Rattle.std.proofs.lemmas.List.{take_at}
use Rattle.std.proofs.Math.Seq.{map-set_same}
use Rattle.std.proofs.lemmas.Bool.Decides.{nat_tests}
use mathlib.Core.Logic.{∥∥₁_elim, ∥∥₁_map}
use denote.Struct.Props.{props}
use Rattle.parcels.specs.Calls.{Limits, thin}
use Rattle.parcels.specs.declared.Answer.{Answer}
use Rattle.wire.specs.Calls.{Reading, Reads}
use Rattle.book.specs.Opening.{in_range}
use Rattle.moves.specs.Stage.{stage_limits, limits_of}
use Rattle.letters.specs.Envelope.{Letter, lent_for_letter, letters_in, Posted}
use Rattle.session.specs.Answering.{Done}
use Rattle.session.specs.Exchanging.{Begun, Called, RowCalled, Heard, Ticked, Sent}
use Rattle.promises.specs.World.{Memory, Said, World, Lived, In, called, opened, heard, ticked, with_memory, IsRowKnown}
use Rattle.promises.specs.Promise.{GoodLimits, RightRow}
use Rattle.theorems.specs.Ours.{ours}
use Rattle.theorems.proofs.Promises.{right_now}
use Rattle.theorems.proofs.Happened.{no_letter as no_letter_sent}
use Rattle.world.specs.declared.Exchange.{Exchange}
use Rattle.world.specs.declared.station.Station.{Station}
use Rattle.world.specs.Stations.{words_of, memory_at, Numbered}
use Rattle.world.specs.Journal.{history, world_of}
use Rattle.world.specs.Outcome.{at_office, Handed}
use Rattle.world.proofs.Journal.{said_of, history_push}
use Rattle.world.proofs.Asking.{readable_as}
use Rattle.world.proofs.Stations.{begun_at, memory_set, numbered_set, done_there}

-- letters that were written into lent bytes, none in this stage, were laid to those that were sent before
pub collected : (bytes bytes' : List ℕ) (xs : List Letter) (lent lent' : List ℕ) (k : ℕ) → xs ≡ [] → Posted xs k lent lent' → bytes' ≡ bytes ++ take (lent_for_letter * k) lent' → letters_in bytes' ≡ letters_in bytes ++ xs
collected bytes bytes' [] lent lent' k none (count, _) is =
    ap letters_in (subst (λ j. bytes' ≡ bytes ++ take (lent_for_letter * j) lent') count is ∙ append-nil bytes) ∙ sym (append-nil (letters_in bytes))
collected bytes bytes' (x ∷ xs) lent lent' k none (count, _) is = cc

-- what was laid to the letters before came out of the bytes that an office had written
pub gathered : (bytes bytes' kept lent lent' shown rest : List ℕ) (k m : ℕ) → kept ≡ bytes → shown ≡ take m (lent' ++ rest) → length lent' ≡ length lent → length lent ≡ m → bytes' ≡ kept ++ take (lent_for_letter * k) shown →
    bytes' ≡ bytes ++ take (lent_for_letter * k) lent'
gathered bytes bytes' kept lent lent' shown rest k m same is long size more =
    more ∙ ap (λ z. z ++ take (lent_for_letter * k) shown) same ∙ ap (λ z. bytes ++ take (lent_for_letter * k) z) (is ∙ take_at lent' rest m (long ∙ size))

-- the world after one office's memory changed, and letters and what was said were added
same_world : (o : ℕ) (ss : List Station) (y : Station) (ls sent : List Letter) (ys : List Exchange) (said : List Said) → o < length ss → ls ≡ sent → history ys ≡ said →
    record { memory = with_memory (memory_at ss) o (words_of y); sent = sent; said = said } ≡ world_of (set ss o y) ls ys
same_world o ss y ls sent ys said within is told =
    rw (← is, ← told) (ap (λ (m : ℕ → Memory). record { memory = m; sent = ls; said = history ys }) (sym (memory_set ss o y within)))

-- a letter of those that were sent
pub in_at : (xs : List Letter) (k : ℕ) (d : Letter) → k < length xs → In (get_or xs k d) xs
unfolding In
in_at [] k d low = absurd (omega (arith, low))
in_at (x ∷ xs) zero d low = inl refl
in_at (x ∷ xs) (suc k) d low = inr (in_at xs k d (omega (arith, low)))

-- no letter was sent, whatever happened
pub none_yet : (l : Limits) (ss : List Station) (ls : List Letter) (xs : List Exchange) → ∥ Lived ours l (world_of ss ls xs) ∥₁ → ls ≡ []
none_yet l ss ls xs v = ∥∥₁_elim v (hlevel props) (λ w. no_letter_sent w)

-- nothing happened yet
pub begins : (n p : ℕ) (ss : List Station) (ls : List Letter) (xs : List Exchange) → length ss ≡ n → ((k : ℕ) (d : Station) → k < n → Begun (stage_limits n p) k (words_of (get_or ss k d))) → ls ≡ [] → xs ≡ [] →
    ∥ Lived ours (stage_limits n p) (world_of ss ls xs) ∥₁
unfolding history
begins n p ss ls xs all begun none e =
    rw (e, none) (∣ opened (memory_at ss) (λ o there. begun_at (stage_limits n p) ss o (omega (arith, all, there)) (λ d. begun o d there)) ∣₁)

-- the limits of a world are such that offices can be opened with them
pub good_limits : (n p : ℕ) → in_range n 0 p ≡ true → GoodLimits thin (stage_limits n p)
good_limits n p good = (grind (arith, nat_tests), grind (arith, nat_tests), grind (arith, nat_tests), λ k. refl)

-- the answer is right
pub right : (n p o : ℕ) (ss : List Station) (ls : List Letter) (xs : List Exchange) (r : Reading) (a : Answer) (m : Memory) → in_range n 0 p ≡ true → o < n →
    ∥ Lived ours (stage_limits n p) (world_of ss ls xs) ∥₁ → Done (stage_limits n p) o (memory_at ss o) r a m → RightRow (stage_limits n p) (history xs) o r a
right n p o ss ls xs r a m good there v done = right_now (stage_limits n p) (world_of ss ls xs) o r a m (good_limits n p good) v there done

-- an office that was found is there
pub is_there : (n o : ℕ) → Ok tt ≡ at_office n o → o < n
is_there n o e = grind (arith, nat_tests)

-- an office of the world did something: what that leaves of the world
pub record Went (n p : ℕ) (ss : List Station) (ls : List Letter) (xs : List Exchange) : Type 0 where
  pub numbered : Numbered ss n p
  pub lived : ∥ Lived ours (stage_limits n p) (world_of ss ls xs) ∥₁

-- in a world whose offices have their numbers, one was taken out, and put back when it had done something, and letters were collected
module _ (n p o : ℕ) (ss : List Station) (x y : Station) (bytes bytes' : List ℕ) (xs : List Exchange) (lent lent' : List ℕ) (k : ℕ) (all : n ≡ length ss) (numbered : Numbered ss n p)
    (v : ∥ Lived ours (stage_limits n p) (world_of ss (letters_in bytes) xs) ∥₁) (there : o < n) (is : x ≡ get_or ss o x) (same : y.opening ≡ x.opening)
    (more : bytes' ≡ bytes ++ take (lent_for_letter * k) lent') where
  within : o < length ss
  within = omega (arith, all, there)

  -- a tick
  pub ticked_then : Sent (Ticked (limits_of x.opening) x.opening.own (words_of x)) lent lent' k (words_of y) → Went n p (set ss o y) (letters_in bytes') xs
  ticked_then did =
      let (sent, done, posted) = done_there ss o n p x (λ l q m. Sent (Ticked l q m) lent lent' k (words_of y)) within (sym is) numbered did in
      let all_sent : letters_in bytes' ≡ letters_in bytes ++ sent = collected bytes bytes' sent lent lent' k done.1 posted more in
      record {
        numbered = numbered_set ss o n p x y within (sym is) same numbered;
        lived = ∥∥₁_map v (λ w. subst (λ (u : World). Lived ours (stage_limits n p) u) (same_world o ss y (letters_in bytes') (letters_in bytes ++ sent) xs (history xs) within all_sent refl) (ticked o (words_of y) sent w there done));
      }

  -- a letter
  pub heard_then : (letter : Letter) → letter.to ≡ o → In letter (letters_in bytes) → Sent (Heard (limits_of x.opening) x.opening.own (words_of x) letter.text) lent lent' k (words_of y) → Went n p (set ss o y) (letters_in bytes') xs
  heard_then letter to was did =
      let (sent, done, posted) = done_there ss o n p x (λ l q m. Sent (Heard l q m letter.text) lent lent' k (words_of y)) within (sym is) numbered did in
      let all_sent : letters_in bytes' ≡ letters_in bytes ++ sent = collected bytes bytes' sent lent lent' k done.1 posted more in
      let there_too : letter.to < n = subst (λ q. q < n) (sym to) there in
      let done_too : Heard (stage_limits n p) letter.to (memory_at ss letter.to) letter.text (words_of y) sent = subst (λ q. Heard (stage_limits n p) q (memory_at ss q) letter.text (words_of y) sent) (sym to) done in
      let same_too : record { memory = with_memory (memory_at ss) letter.to (words_of y); sent = letters_in bytes ++ sent; said = history xs } ≡ world_of (set ss o y) (letters_in bytes') xs =
      ap (λ q. record { memory = with_memory (memory_at ss) q (words_of y); sent = letters_in bytes ++ sent; said = history xs }) to ∙ same_world o ss y (letters_in bytes') (letters_in bytes ++ sent) xs (history xs) within all_sent refl in
      record {
        numbered = numbered_set ss o n p x y within (sym is) same numbered;
        lived = ∥∥₁_map v (λ w. subst (λ (u : World). Lived ours (stage_limits n p) u) same_too (heard letter (words_of y) sent w was there_too done_too));
      }

  -- a call: its answer is right, too
  pub called_then : (ys : List Exchange) (row : List ℕ) (r : Reading) (a : Answer) → in_range n 0 p ≡ true → Reads row r → ((s : Reading) → Reads row s → r ≡ s) → IsRowKnown r (history xs) →
      Sent (RowCalled (limits_of x.opening) x.opening.own (words_of x) row a) lent lent' k (words_of y) → ys ≡ xs ++ (record { at = o; reading = r; answer = a } ∷ []) →
      Went n p (set ss o y) (letters_in bytes') ys × Handed (stage_limits n p) xs o r (Ok a) ys
  called_then ys row r a good reads only known did written =
      let (sent, done, posted) = done_there ss o n p x (λ l q m. Sent (RowCalled l q m row a) lent lent' k (words_of y)) within (sym is) numbered did in
      let called_so : Called (stage_limits n p) o (memory_at ss o) r (words_of y) a sent = subst (λ (s : Reading). Called (stage_limits n p) o (memory_at ss o) s (words_of y) a sent) (sym (only done.reading done.reads)) done.called in
      let all_sent : letters_in bytes' ≡ letters_in bytes ++ sent = collected bytes bytes' sent lent lent' k called_so.2 posted more in
      let said : history ys ≡ said_of (record { at = o; reading = r; answer = a }) ∷ history xs = ap history written ∙ history_push xs (record { at = o; reading = r; answer = a }) in (
        record {
          numbered = numbered_set ss o n p x y within (sym is) same numbered;
          lived = ∥∥₁_map v (λ w. subst (λ (u : World). Lived ours (stage_limits n p) u)
              (same_world o ss y (letters_in bytes') (letters_in bytes ++ sent) ys (said_of (record { at = o; reading = r; answer = a }) ∷ history xs) within all_sent said)
              (called o r (words_of y) a sent w there (readable_as row r reads) known called_so));
        },
        (there, known, right n p o ss (letters_in bytes) xs r a (words_of y) good there v called_so.0, written),
      )

-- an office whose words stayed as they were
pub words_kept : (ss : List Station) (o : ℕ) (x y : Station) → x ≡ get_or ss o x → words_of y ≡ words_of x → map words_of (set ss o y) ≡ map words_of ss
words_kept ss o x y is same = map-set_same words_of ss o y x (same ∙ ap words_of is)
