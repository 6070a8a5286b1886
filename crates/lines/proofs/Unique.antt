-- No two lines that say different things are written with the same bytes.
use Rattle.std.proofs.Common.{◌≡◌, ℕ, ◌<◌, Bool, true, false, ◌||◌, List, [], ◌∷◌, length, codes, cond, refl, sym, ap, ◌∙◌, subst, arith, ◌==◌, inl, inr, Ok}
use Rattle.std.proofs.lemmas.Bool.{false≢true}
use Rattle.std.proofs.lemmas.Bool.Decides.{nat_tests}
use Rattle.std.specs.Char.{is_ascii_alphabetic, is_ascii_digit}
use Rattle.std.specs.List.{take_while, starts_with}
use Rattle.lines.specs.Tokens.{first_passes, without_blanks, first_number, is_blank_line, Token, word, number, byte, mark, Stand, byte_tokens}
use Rattle.lines.specs.Forms.{call_tokens, line_tokens, name_word, Content, bytes_at, itself, content, OnlyLine, Reads}
use Rattle.lines.specs.declared.CallName.{CallName}
use Rattle.lines.specs.declared.CallName.TheVariants.{Accept as NAccept, Send as NSend, Slip as NSlip, Take as NTake, Hand as NHand, Pay as NPay, Where as NWhere, Here as NHere, Sums as NSums}
use Rattle.lines.specs.declared.Line.{Line}
use Rattle.lines.specs.declared.Line.TheVariants.{Blank, Opening, Call, Bytes, Tick, AllTick, Letter, AllLetters, AllLettersLastFirst}
use Rattle.parcels.specs.declared.Call.{Call as ACall}
use Rattle.lines.proofs.Said.{letters, is, past_word, past_number, past_mark, call_said, said, call_from, named}

-- the same tokens leave the same
left_only : (ts : List Token) (bs k l : List ℕ) → Stand ts bs k → Stand ts bs l → k ≡ l
left_only [] bs k l g h = sym g ∙ h
left_only (word w ∷ ts) bs k l g h = left_only ts _ k l g.1 h.1
left_only (number n ∷ ts) bs k l g h = left_only ts _ k l g.2 h.2
left_only (byte n ∷ ts) bs k l g h = left_only ts _ k l g.2 h.2
left_only (mark m ∷ ts) bs k l g h = left_only ts _ k l g.1 h.1

-- lines that say the same have the same tokens
content_tokens : Content → List Token
content_tokens (bytes_at at vs) = word (codes "at") ∷ number at ∷ mark (codes ":") ∷ word (codes "bytes") ∷ byte_tokens vs
content_tokens (itself line) = line_tokens line

tokens_of : (line : Line) → content_tokens (content line) ≡ line_tokens line
unfolding content_tokens
tokens_of Blank = refl
tokens_of (Opening offices parcels) = refl
tokens_of (Call at call) = refl
tokens_of (Bytes at bytes) = refl
tokens_of (Tick at) = refl
tokens_of AllTick = refl
tokens_of (Letter n) = refl
tokens_of AllLetters = refl
tokens_of AllLettersLastFirst = refl

same_tokens : (x y : Line) → content x ≡ content y → line_tokens x ≡ line_tokens y
same_tokens x y e = sym (tokens_of x) ∙ ap content_tokens e ∙ tokens_of y

-- a letter is no digit
letter_no_digit : (b : ℕ) → is_ascii_alphabetic b ≡ true → is_ascii_digit b ≡ false
letter_no_digit b h = grind (arith, nat_tests)

no_digit_by : (b : ℕ) (bs : List ℕ) (t : Bool) → is_ascii_alphabetic b ≡ t → 0 < length (take_while is_ascii_alphabetic (b ∷ bs)) → is_ascii_digit b ≡ false
no_digit_by b bs true e h = letter_no_digit b e
no_digit_by b bs false e h = absurd (omega (arith, rw e at h))

-- where a word stands first, no digit does
no_digit : (bs w : List ℕ) → 0 < length w → take_while is_ascii_alphabetic bs ≡ w → first_passes is_ascii_digit bs ≡ false
no_digit [] w some e = refl
no_digit (b ∷ bs) w some e = no_digit_by b bs _ refl (rw e some)

-- what a line can only say, by its words and by where its numbers stand: of bytes only at which office they are
at_said : ℕ → List ℕ → List ℕ → Content
at_said at w bs =
    cond (is w (codes "bytes")) (bytes_at at [])
    (cond (is w (codes "tick")) (itself (Tick at))
    (itself (Call at (call_said w bs))))

all_said : List ℕ → List ℕ → Content
all_said w bs =
    cond (is w (codes "clocks")) (itself AllTick)
    (cond (starts_with ◌==◌ (past_word bs) (codes ",")) (itself AllLettersLastFirst)
    (itself AllLetters))

word_said : List ℕ → List ℕ → Content
word_said w bs =
    let behind_office = past_mark (past_number bs) in
    cond (is w (codes "at")) (at_said (first_number bs) (take_while is_ascii_alphabetic behind_office) (past_word behind_office))
    (cond (is w (codes "all")) (all_said (take_while is_ascii_alphabetic bs) (past_word bs))
    (cond (is w (codes "letter")) (itself (Letter (first_number bs)))
    (itself Blank)))

line_said : List ℕ → Content
line_said bs =
    cond (first_passes is_ascii_digit bs)
    (itself (Opening (first_number bs) (first_number (past_mark (past_word (past_number bs))))))
    (word_said (take_while is_ascii_alphabetic bs) (past_word bs))

-- without the bytes
plain : Content → Content
plain (bytes_at at vs) = bytes_at at []
plain (itself line) = itself line

at_named : (n : CallName) (at : ℕ) (bs : List ℕ) → at_said at (name_word n) bs ≡ itself (Call at (call_said (name_word n) bs))
unfolding at_said letters
at_named NAccept at bs = refl
at_named NSend at bs = refl
at_named NSlip at bs = refl
at_named NTake at bs = refl
at_named NHand at bs = refl
at_named NPay at bs = refl
at_named NWhere at bs = refl
at_named NHere at bs = refl
at_named NSums at bs = refl

at_call : (c : ACall) (at : ℕ) (bs left : List ℕ) → Stand (call_tokens c) bs left → at_said at (take_while is_ascii_alphabetic bs) (past_word bs) ≡ itself (Call at c)
at_call c at bs left h =
    let from = call_from c bs left h in
    let n = named c (take_while is_ascii_alphabetic bs) (past_word bs) left from in
    let e = said c (take_while is_ascii_alphabetic bs) (past_word bs) left from in
    ap (λ w. at_said at w (past_word bs)) n.1 ∙ at_named n.0 at (past_word bs) ∙ ap (λ w. itself (Call at (call_said w (past_word bs)))) (sym n.1) ∙ ap (λ k. itself (Call at k)) e

line_is : (line : Line) (bs : List ℕ) → Stand (line_tokens line) bs [] → line_said bs ≡ plain (content line)
unfolding line_said word_said at_said all_said plain letters
line_is Blank bs h = rw h refl
line_is (Opening offices parcels) bs h = rw h.0.0 (rw (h.1, h.2.1.1.1) refl)
line_is (Call at call) bs h = rw (no_digit bs (codes "at") (omega arith) h.0, h.0, h.1.1) (at_call call at _ [] h.1.2.1)
line_is (Bytes at bytes) bs h = rw (no_digit bs (codes "at") (omega arith) h.0, h.0, h.1.1, h.1.2.1.0) refl
line_is (Tick at) bs h = rw (no_digit bs (codes "at") (omega arith) h.0, h.0, h.1.1, h.1.2.1.0) refl
line_is AllTick bs h = rw (no_digit bs (codes "all") (omega arith) h.0, h.0, h.1.0) refl
line_is (Letter n) bs h = rw (no_digit bs (codes "letter") (omega arith) h.0, h.0, h.1.1) refl
line_is AllLetters bs h = rw (no_digit bs (codes "all") (omega arith) h.0, h.0, h.1.0, h.1.1.1) refl
line_is AllLettersLastFirst bs h = rw (no_digit bs (codes "all") (omega arith) h.0, h.0, h.1.0, h.1.1.1.0) refl

-- bytes, one behind the other up to the end, are no others
bytes_only : (vs ws bs : List ℕ) → Stand (byte_tokens vs) bs [] → Stand (byte_tokens ws) bs [] → vs ≡ ws
bytes_only [] [] bs g h = refl
bytes_only [] (w ∷ ws) bs g h = absurd (false≢true (subst (λ xs. first_passes is_ascii_digit xs ≡ true) g h.0.0))
bytes_only (v ∷ vs) [] bs g h = absurd (false≢true (subst (λ xs. first_passes is_ascii_digit xs ≡ true) h g.0.0))
bytes_only (v ∷ vs) (w ∷ ws) bs g h = let rest = bytes_only vs ws _ g.2 h.2 in let first : v ≡ w = sym g.1 ∙ h.1 in cc

-- the bytes that a line hands to an office stand behind four tokens
bytes_behind : (line : Line) (bs : List ℕ) (at : ℕ) (vs : List ℕ) → Stand (line_tokens line) bs [] → content line ≡ bytes_at at vs → Stand (byte_tokens vs) (past_word (past_mark (past_number (past_word bs)))) []
bytes_behind (Bytes o bytes) bs at vs h e = let same : bytes.items ≡ vs = cc in subst (λ xs. Stand (byte_tokens xs) (past_word (past_mark (past_number (past_word bs)))) []) same h.1.2.1.1
bytes_behind Blank bs at vs h e = absurd (cc)
bytes_behind (Opening offices parcels) bs at vs h e = absurd (cc)
bytes_behind (Call o call) bs at vs h e = absurd (cc)
bytes_behind (Tick o) bs at vs h e = absurd (cc)
bytes_behind AllTick bs at vs h e = absurd (cc)
bytes_behind (Letter n) bs at vs h e = absurd (cc)
bytes_behind AllLetters bs at vs h e = absurd (cc)
bytes_behind AllLettersLastFirst bs at vs h e = absurd (cc)

same_by : (x y : Content) → plain x ≡ plain y → ((at o : ℕ) (vs ws : List ℕ) → x ≡ bytes_at at vs → y ≡ bytes_at o ws → vs ≡ ws) → x ≡ y
unfolding plain
same_by (bytes_at at vs) (bytes_at o ws) e k = let same = k at o vs ws refl refl in cc
same_by (bytes_at at vs) (itself y) e k = absurd (cc)
same_by (itself x) (bytes_at o ws) e k = absurd (cc)
same_by (itself x) (itself y) e k = e

stand_only : (x y : Line) (bs : List ℕ) → Stand (line_tokens x) bs [] → Stand (line_tokens y) bs [] → content x ≡ content y
stand_only x y bs g h =
    same_by (content x) (content y) (sym (line_is x bs g) ∙ line_is y bs h)
    (λ at o vs ws p q. bytes_only vs ws _ (bytes_behind x bs at vs g p) (bytes_behind y bs o ws h q))

comment_said : (b : ℕ) (bs : List ℕ) → b ≡ 35 → line_said (b ∷ bs) ≡ itself Blank
unfolding line_said word_said letters
comment_said b bs e = rw e refl

blank_said : (bs : List ℕ) → (length bs == 0 || first_passes (λ b. b == 35) bs) ≡ true → line_said bs ≡ itself Blank
unfolding line_said word_said letters
blank_said [] h = refl
blank_said (b ∷ bs) h = comment_said b bs (grind (arith, nat_tests))

itself_by : (x : Content) → plain x ≡ itself Blank → x ≡ itself Blank
unfolding plain
itself_by (bytes_at at vs) e = absurd (cc)
itself_by (itself x) e = e

-- a line that says nothing is no other
blank_only : (y : Line) (bs : List ℕ) → is_blank_line bs ≡ true → Stand (line_tokens y) (without_blanks bs) [] → content y ≡ itself Blank
blank_only y bs e h = itself_by (content y) (sym (line_is y (without_blanks bs) h) ∙ blank_said (without_blanks bs) e)

pub only_line : (bs : List ℕ) → OnlyLine bs
only_line bs x y (inl g) (inl h) = rw (g.0, h.0) refl
only_line bs x y (inl g) (inr h) = rw g.0 (sym (blank_only y bs g.1 h))
only_line bs x y (inr g) (inl h) = rw h.0 (blank_only x bs h.1 g)
only_line bs x y (inr g) (inr h) = stand_only x y (without_blanks bs) g h

-- behind what was read nothing is left where the bytes say the same up to their end
pub none_left : (x y : Line) (bs left : List ℕ) → Stand (line_tokens x) bs left → content x ≡ content y → Stand (line_tokens y) bs [] → left ≡ []
none_left x y bs left g e h = left_only (line_tokens y) bs left [] (subst (λ ts. Stand ts bs left) (same_tokens x y e) g) h

pub blank_reads : (bs : List ℕ) → is_blank_line bs ≡ true → Reads bs (Ok Blank)
blank_reads bs e line says = only_line bs Blank line (inl (refl, e)) says
