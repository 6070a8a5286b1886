-- What was written of a line says that line.
use Rattle.std.proofs.Common.{◌≡◌, ℕ, ◌+◌, ◌/◌, ◌%◌, ◌^◌, ◌<◌, ◌≤◌, Bool, true, false, ◌&&◌, ◌||◌, List, [], ◌∷◌, ◌++◌, length, take, drop, decimal, refl, sym, ap, ◌∙◌, arith, ◌==◌, inr, subst, Result}
use Rattle.std.proofs.Math.Seq.{take-append_seam, drop-append_seam}
use Rattle.std.proofs.lemmas.Bool.{false≢true, and_parts, and_from}
use Rattle.std.proofs.lemmas.Bool.Decides.{nat_tests}
use Rattle.std.proofs.lemmas.Fmt.{decimal_by_steps}
use Rattle.std.proofs.lemmas.List.Sums.{fold-append}
use Rattle.std.proofs.lemmas.Slice.Eq.{bytes_eq-Decides}
use Rattle.std.specs.Char.{is_ascii_alphabetic, is_ascii_digit}
use Rattle.std.specs.List.{prefix_len, take_while, starts_with}
use Rattle.lines.specs.Decimal.{value_of, with_digit}
use Rattle.lines.specs.Forms.{call_tokens, line_tokens, Says, Reads}
use Rattle.lines.specs.Texts.{rest_text, tokens_text, line_text, AllFit, ReadsWritten}
use Rattle.lines.specs.Tokens.{first_passes, is_blank, without_blanks, behind, first_number, Token, word, number, byte, mark, Stand, byte_tokens}
use Rattle.lines.specs.declared.Line.{Line}
use Rattle.lines.specs.declared.Line.TheVariants.{Blank, Opening, Call, Bytes, Tick, AllTick, Letter, AllLetters, AllLettersLastFirst}
use Rattle.lines.specs.declared.fault.Fault.{Fault}
use Rattle.lines.proofs.Tokens.{drop-one_more}
use Rattle.parcels.specs.declared.Call.{Call as ACall}
use Rattle.parcels.specs.declared.Call.TheVariants.{Accept, Send, SlipAgain, TakeIn, HandOut, Pay, WhereIs, Here, Sums}

-- a row of bytes, one or more, that all pass a test
runs : (ℕ → Bool) → List ℕ → Bool
runs test [] = false
runs test (b ∷ []) = test b
runs test (b ∷ (c ∷ bs)) = test b && runs test (c ∷ bs)

none_passes : (test : ℕ → Bool) (rest : List ℕ) → first_passes test rest ≡ false → prefix_len test rest ≡ 0
none_passes test [] h = refl
none_passes test (b ∷ bs) h = rw h refl

-- such a row is all that passes at the front, where what begins behind it does not
run_len : (test : ℕ → Bool) (w rest : List ℕ) → runs test w ≡ true → first_passes test rest ≡ false → prefix_len test (w ++ rest) ≡ length w
unfolding runs
run_len test [] rest h e = absurd (false≢true h)
run_len test (b ∷ []) rest h e = rw h (omega (arith, none_passes test rest e))
run_len test (b ∷ (c ∷ bs)) rest h e =
    let both = and_parts (test b) (runs test (c ∷ bs)) h in
    rw both.0 (omega (arith, run_len test (c ∷ bs) rest both.1 e))

run_word : (test : ℕ → Bool) (w rest : List ℕ) → runs test w ≡ true → first_passes test rest ≡ false → take_while test (w ++ rest) ≡ w
run_word test w rest h e = ap (λ n. take n (w ++ rest)) (run_len test w rest h e) ∙ take-append_seam w rest

run_behind : (test : ℕ → Bool) (w rest : List ℕ) → runs test w ≡ true → first_passes test rest ≡ false → behind test (w ++ rest) ≡ without_blanks rest
run_behind test w rest h e = ap without_blanks (ap (λ n. drop n (w ++ rest)) (run_len test w rest h e) ∙ drop-append_seam w rest)

run_first : (test also : ℕ → Bool) (v : Bool) (w rest : List ℕ) → ((b : ℕ) → test b ≡ true → also b ≡ v) → runs test w ≡ true → first_passes also (w ++ rest) ≡ v
unfolding runs
run_first test also v [] rest k h = absurd (false≢true h)
run_first test also v (b ∷ []) rest k h = k b h
run_first test also v (b ∷ (c ∷ bs)) rest k h = k b (and_parts (test b) (runs test (c ∷ bs)) h).0

-- a mark
is_mark : ℕ → Bool
is_mark b = b == 44 || b == 58

letter_no_blank : (b : ℕ) → is_ascii_alphabetic b ≡ true → is_blank b ≡ false
letter_no_blank b h = grind (arith, nat_tests)

digit_no_blank : (b : ℕ) → is_ascii_digit b ≡ true → is_blank b ≡ false
digit_no_blank b h = grind (arith, nat_tests)

mark_no_blank : (b : ℕ) → is_mark b ≡ true → is_blank b ≡ false
unfolding is_mark
mark_no_blank b h = grind (arith, nat_tests)

mark_no_letter : (b : ℕ) → is_mark b ≡ true → is_ascii_alphabetic b ≡ false
unfolding is_mark
mark_no_letter b h = grind (arith, nat_tests)

mark_no_digit : (b : ℕ) → is_mark b ≡ true → is_ascii_digit b ≡ false
unfolding is_mark
mark_no_digit b h = grind (arith, nat_tests)

-- words of letters, and marks
good : List Token → Bool
good [] = true
good (word w ∷ ts) = runs is_ascii_alphabetic w && good ts
good (number n ∷ ts) = good ts
good (byte n ∷ ts) = good ts
good (mark m ∷ ts) = runs is_mark m && good ts

-- behind a word or a number begins neither
rest_first : (test : ℕ → Bool) (ts : List Token) → good ts ≡ true → test 32 ≡ false → ((b : ℕ) → is_mark b ≡ true → test b ≡ false) → first_passes test (rest_text ts) ≡ false
unfolding good
rest_first test [] h blank k = refl
rest_first test (word w ∷ ts) h blank k = blank
rest_first test (number n ∷ ts) h blank k = blank
rest_first test (byte n ∷ ts) h blank k = blank
rest_first test (mark m ∷ ts) h blank k = run_first is_mark test false m (rest_text ts) k (and_parts (runs is_mark m) (good ts) h).0

-- what `decimal` writes are digits, which stand for its number
record Digits (n : ℕ) (ds : List ℕ) : Type 0 where
  digits : runs is_ascii_digit ds ≡ true
  value : value_of ds ≡ n

runs-append : (test : ℕ → Bool) (ds : List ℕ) (d : ℕ) → runs test ds ≡ true → test d ≡ true → runs test (ds ++ d ∷ []) ≡ true
unfolding runs
runs-append test [] d h e = absurd (false≢true h)
runs-append test (b ∷ []) d h e = and_from (test b) (test d) h e
runs-append test (b ∷ (c ∷ bs)) d h e =
    let both = and_parts (test b) (runs test (c ∷ bs)) h in
    and_from (test b) (runs test (c ∷ (bs ++ d ∷ []))) both.0 (runs-append test (c ∷ bs) d both.1 e)

glyph : (n : ℕ) → n < 10 → is_ascii_digit (48 + n) ≡ true
glyph n h = grind (arith, nat_tests)

single_digit : (n : ℕ) → n < 10 → Digits n ((48 + n) ∷ [])
unfolding runs
single_digit n h = record { digits = glyph n h; value = omega arith }

more_digits : (n : ℕ) (ds : List ℕ) → 10 ≤ n → Digits (n / 10) ds → Digits n (ds ++ ((48 + n % 10) ∷ []))
more_digits n ds h front =
    let last : n % 10 < 10 = omega arith in
    record {
      digits = runs-append is_ascii_digit ds (48 + n % 10) front.digits (glyph (n % 10) last);
      value = fold-append with_digit 0 ds ((48 + n % 10) ∷ []) ∙ omega (arith, front.value);
    }

decimal_digits : (n : ℕ) → n < 2 ^ 32 → Digits n (decimal n)
decimal_digits n h = decimal_by_steps Digits single_digit more_digits n (omega arith)

-- what stands where a word, a number or a mark was written
word_stands : (w : List ℕ) (ts : List Token) → good (word w ∷ ts) ≡ true → Stand ts (without_blanks (rest_text ts)) [] → Stand (word w ∷ ts) (w ++ rest_text ts) []
unfolding good
word_stands w ts g h =
    let both = and_parts (runs is_ascii_alphabetic w) (good ts) g in
    let stop = rest_first is_ascii_alphabetic ts both.1 refl mark_no_letter in
    (run_word is_ascii_alphabetic w (rest_text ts) both.0 stop, rw (run_behind is_ascii_alphabetic w (rest_text ts) both.0 stop) h)

record Written (n : ℕ) (rest : List ℕ) : Type 0 where
  first : first_passes is_ascii_digit (decimal n ++ rest) ≡ true
  value : first_number (decimal n ++ rest) ≡ n
  left : behind is_ascii_digit (decimal n ++ rest) ≡ without_blanks rest

number_written : (n : ℕ) (ts : List Token) → good ts ≡ true → n < 2 ^ 32 → Written n (rest_text ts)
number_written n ts g h =
    let ds = decimal_digits n h in
    let stop = rest_first is_ascii_digit ts g refl mark_no_digit in
    record {
      first = run_first is_ascii_digit is_ascii_digit true (decimal n) (rest_text ts) (λ b e. e) ds.digits;
      value = ap value_of (run_word is_ascii_digit (decimal n) (rest_text ts) ds.digits stop) ∙ ds.value;
      left = run_behind is_ascii_digit (decimal n) (rest_text ts) ds.digits stop;
    }

number_stands : (n : ℕ) (ts : List Token) → good ts ≡ true → n < 2 ^ 32 → Stand ts (without_blanks (rest_text ts)) [] → Stand (number n ∷ ts) (decimal n ++ rest_text ts) []
number_stands n ts g e h =
    let w = number_written n ts g e in
    ((w.first, rw w.value e), w.value, rw w.left h)

byte_stands : (n : ℕ) (ts : List Token) → good ts ≡ true → n < 2 ^ 8 → Stand ts (without_blanks (rest_text ts)) [] → Stand (byte n ∷ ts) (decimal n ++ rest_text ts) []
byte_stands n ts g e h =
    let w = number_written n ts g (omega arith) in
    ((w.first, rw w.value e), w.value, rw w.left h)

starts : (m rest : List ℕ) → starts_with ◌==◌ (m ++ rest) m ≡ true
starts m rest = rw (take-append_seam m rest) ((bytes_eq-Decides m m).1 refl)

mark_stands : (m : List ℕ) (ts : List Token) → Stand ts (without_blanks (rest_text ts)) [] → Stand (mark m ∷ ts) (m ++ rest_text ts) []
mark_stands m ts h = (starts m (rest_text ts), rw (drop-append_seam m (rest_text ts)) h)

none_skipped : (bs : List ℕ) → first_passes is_blank bs ≡ false → without_blanks bs ≡ bs
none_skipped bs h = ap (λ n. drop n bs) (none_passes is_blank bs h)

one_skipped : (bs : List ℕ) → first_passes is_blank bs ≡ false → without_blanks (32 ∷ bs) ≡ bs
one_skipped bs h = drop-one_more (prefix_len is_blank bs) 32 bs ∙ none_skipped bs h

-- a number begins with a digit, and so with no blank
number_no_blank : (n : ℕ) (rest : List ℕ) → n < 2 ^ 32 → first_passes is_blank (decimal n ++ rest) ≡ false
number_no_blank n rest h = run_first is_ascii_digit is_blank false (decimal n) rest digit_no_blank (decimal_digits n h).digits

stand_rest : (ts : List Token) → good ts ≡ true → AllFit ts → Stand ts (without_blanks (rest_text ts)) []
unfolding good
stand_rest [] g h = refl
stand_rest (word w ∷ ts) g h =
    let both = and_parts (runs is_ascii_alphabetic w) (good ts) g in
    rw (one_skipped (w ++ rest_text ts) (run_first is_ascii_alphabetic is_blank false w (rest_text ts) letter_no_blank both.0)) (word_stands w ts g (stand_rest ts both.1 h))
stand_rest (number n ∷ ts) g h =
    rw (one_skipped (decimal n ++ rest_text ts) (number_no_blank n (rest_text ts) h.0)) (number_stands n ts g h.0 (stand_rest ts g h.1))
stand_rest (byte n ∷ ts) g h =
    rw (one_skipped (decimal n ++ rest_text ts) (number_no_blank n (rest_text ts) (omega arith))) (byte_stands n ts g h.0 (stand_rest ts g h.1))
stand_rest (mark m ∷ ts) g h =
    let both = and_parts (runs is_mark m) (good ts) g in
    rw (none_skipped (m ++ rest_text ts) (run_first is_mark is_blank false m (rest_text ts) mark_no_blank both.0)) (mark_stands m ts (stand_rest ts both.1 h))

stand_text : (ts : List Token) → good ts ≡ true → AllFit ts → Stand ts (without_blanks (tokens_text ts)) []
unfolding good
stand_text [] g h = refl
stand_text (word w ∷ ts) g h =
    let both = and_parts (runs is_ascii_alphabetic w) (good ts) g in
    rw (none_skipped (w ++ rest_text ts) (run_first is_ascii_alphabetic is_blank false w (rest_text ts) letter_no_blank both.0)) (word_stands w ts g (stand_rest ts both.1 h))
stand_text (number n ∷ ts) g h =
    rw (none_skipped (decimal n ++ rest_text ts) (number_no_blank n (rest_text ts) h.0)) (number_stands n ts g h.0 (stand_rest ts g h.1))
stand_text (byte n ∷ ts) g h =
    rw (none_skipped (decimal n ++ rest_text ts) (number_no_blank n (rest_text ts) (omega arith))) (byte_stands n ts g h.0 (stand_rest ts g h.1))
stand_text (mark m ∷ ts) g h = stand_rest (mark m ∷ ts) g h

good_bytes : (vs : List ℕ) → good (byte_tokens vs) ≡ true
unfolding good
good_bytes [] = refl
good_bytes (v ∷ vs) = good_bytes vs

good_call : (c : ACall) → good (call_tokens c) ≡ true
unfolding good runs is_mark
good_call (Accept dest amount) = refl
good_call (Send key to) = refl
good_call (SlipAgain key) = refl
good_call (TakeIn s) = refl
good_call (HandOut key) = refl
good_call (Pay key) = refl
good_call (WhereIs key) = refl
good_call (Here from) = refl
good_call Sums = refl

good_line : (line : Line) → good (line_tokens line) ≡ true
unfolding good runs is_mark
good_line Blank = refl
good_line (Opening offices parcels) = refl
good_line (Call at call) = good_call call
good_line (Bytes at bytes) = good_bytes bytes.items
good_line (Tick at) = refl
good_line AllTick = refl
good_line (Letter n) = refl
good_line AllLetters = refl
good_line AllLettersLastFirst = refl

says_written : (line : Line) → AllFit (line_tokens line) → Says (line_text line) line
says_written line h = inr (stand_text (line_tokens line) (good_line line) h)

-- a reader that reads whatever a line says reads what was written
pub reads_written : (bs : List ℕ) (r : Result Line Fault) → Reads bs r → ReadsWritten bs r
reads_written bs r h line fits e = h line (subst (λ xs. Says xs line) (sym e) (says_written line fits))
