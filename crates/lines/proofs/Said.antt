-- What a call can only be, by its first word and by where its numbers stand.
use Rattle.std.proofs.Common.{◌≡◌, ◌≢◌, ℕ, ◌+◌, ◌*◌, List, [], ◌∷◌, ◌∙◌, drop, fold, codes, cond, refl, sym, ap, subst, arith, ◌==◌, Bool, false}
use Rattle.std.proofs.lemmas.Bool.{false≢true}
use Rattle.std.specs.Char.{is_ascii_alphabetic, is_ascii_digit}
use Rattle.std.specs.List.{take_while}
use Rattle.lines.specs.Tokens.{first_passes, without_blanks, behind, first_number, Token, word, number, byte, mark, Stand}
use Rattle.lines.specs.Forms.{call_tokens, line_tokens, beginning_word, name_word, deed_word, GoOn, GoOnAt}
use Rattle.lines.specs.declared.Beginning.{Beginning}
use Rattle.lines.specs.declared.Beginning.TheVariants.{At as BAt, All as BAll, Letter as BLetter}
use Rattle.lines.specs.declared.CallName.{CallName}
use Rattle.lines.specs.declared.CallName.TheVariants.{Accept as NAccept, Send as NSend, Slip as NSlip, Take as NTake, Hand as NHand, Pay as NPay, Where as NWhere, Here as NHere, Sums as NSums}
use Rattle.lines.specs.declared.Deed.{Deed}
use Rattle.lines.specs.declared.Deed.TheVariants.{Call as DCall, Bytes as DBytes, Tick as DTick}
use Rattle.lines.specs.declared.Line.{Line}
use Rattle.lines.specs.declared.Line.TheVariants.{Blank, Opening, Call, Bytes, Tick, AllTick, Letter, AllLetters, AllLettersLastFirst}
use Rattle.parcels.specs.declared.Call.{Call as ACall}
use Rattle.parcels.specs.declared.Call.TheVariants.{Accept, Send, SlipAgain, TakeIn, HandOut, Pay, WhereIs, Here, Sums}
use Rattle.parcels.specs.declared.Slip.{Slip}

-- words as numbers, which can be compared
unfoldable pub letters : List ℕ → ℕ
letters w = fold (λ n b. n * 256 + b) 0 w

first : List ℕ → ℕ
first [] = 0
first (b ∷ bs) = b

last : List ℕ → ℕ
last w = fold (λ n b. b) 0 w

abbrev pub is : List ℕ → List ℕ → Bool
is w v = letters w == letters v

-- what stands behind a word, a number and a mark of one byte
abbrev pub past_word : List ℕ → List ℕ
past_word bs = behind is_ascii_alphabetic bs

abbrev pub past_number : List ℕ → List ℕ
past_number bs = behind is_ascii_digit bs

abbrev pub past_mark : List ℕ → List ℕ
past_mark bs = without_blanks (drop 1 bs)

-- the slip with these numbers
slip_said : List ℕ → Slip
slip_said bs =
    let b1 = past_mark (past_number (past_word bs)) in
    let b2 = past_number b1 in
    let b3 = past_number b2 in
    let b4 = past_number b3 in
    record { key = first_number (past_word bs); step = first_number b1; from = first_number b2; to = first_number b3; dest = first_number b4; amount = first_number (past_number b4) }

-- the call with this first word, if it is one, where this is left behind it
pub call_said : List ℕ → List ℕ → ACall
call_said w bs =
    cond (is w (codes "accept")) (Accept (first_number (past_word bs)) (first_number (past_mark (past_number (past_word bs)))))
    (cond (is w (codes "send")) (Send (first_number bs) (first_number (past_word (past_number bs))))
    (cond (is w (codes "slip")) (SlipAgain (first_number bs))
    (cond (is w (codes "take")) (TakeIn (slip_said bs))
    (cond (is w (codes "hand")) (HandOut (first_number (past_word bs)))
    (cond (is w (codes "pay")) (Pay (first_number bs))
    (cond (is w (codes "where")) (WhereIs (first_number (past_word bs)))
    (cond (is w (codes "here")) (Here (first_number (past_word bs)))
    Sums)))))))

pub said : (c : ACall) (w bs left : List ℕ) → GoOn w (call_tokens c) bs left → call_said w bs ≡ c
unfolding call_said letters slip_said
said (Accept dest amount) w bs left h = rw h.0 (rw (h.1.1.1, h.1.1.2.1.1) refl)
said (Send key to) w bs left h = rw h.0 (rw (h.1.1, h.1.2.1.1) refl)
said (SlipAgain key) w bs left h = rw h.0 (rw h.1.1 refl)
said (TakeIn s) w bs left h =
    let numbers = h.1.1.2.1 in
    rw h.0 (rw (h.1.1.1, numbers.1, numbers.2.1, numbers.2.2.1, numbers.2.2.2.1, numbers.2.2.2.2.1) refl)
said (HandOut key) w bs left h = rw h.0 (rw h.1.1.1 refl)
said (Pay key) w bs left h = rw h.0 (rw h.1.1 refl)
said (WhereIs key) w bs left h = rw h.0 (rw h.1.1.1 refl)
said (Here from) w bs left h = rw h.0 (rw h.1.1.1 refl)
said Sums w bs left h = rw h.0 refl

-- what holds of each call that takes a parcel in, holds of each that begins with "take"
pub only_take : (P : ACall → Type 0) (bs left : List ℕ) → ((s : Slip) → GoOn (codes "take") (call_tokens (TakeIn s)) bs left → P (TakeIn s)) → (c : ACall) → GoOn (codes "take") (call_tokens c) bs left → P c
unfolding call_said letters
only_take P bs left k c h =
    let e = said c (codes "take") bs left h in
    subst P e (k (slip_said bs) (subst (λ x. GoOn (codes "take") (call_tokens x) bs left) (sym e) h))

-- where a word stands first, what goes on behind it
pub stand_from : (w : List ℕ) (ts : List Token) (bs left : List ℕ) → take_while is_ascii_alphabetic bs ≡ w → GoOn w ts (behind is_ascii_alphabetic bs) left → Stand ts bs left
stand_from w [] bs left e h = absurd h
stand_from w (word v ∷ ts) bs left e h = (e ∙ h.0, h.1)
stand_from w (number n ∷ ts) bs left e h = absurd h
stand_from w (byte n ∷ ts) bs left e h = absurd h
stand_from w (mark m ∷ ts) bs left e h = absurd h

-- a call goes on behind its first word
pub call_from : (c : ACall) (bs left : List ℕ) → Stand (call_tokens c) bs left → GoOn (take_while is_ascii_alphabetic bs) (call_tokens c) (behind is_ascii_alphabetic bs) left
call_from (Accept dest amount) bs left h = h
call_from (Send key to) bs left h = h
call_from (SlipAgain key) bs left h = h
call_from (TakeIn s) bs left h = h
call_from (HandOut key) bs left h = h
call_from (Pay key) bs left h = h
call_from (WhereIs key) bs left h = h
call_from (Here from) bs left h = h
call_from Sums bs left h = h

-- and that word has a name
pub named : (c : ACall) (w bs left : List ℕ) → GoOn w (call_tokens c) bs left → (n : CallName) × (w ≡ name_word n)
named (Accept dest amount) w bs left h = (NAccept, h.0)
named (Send key to) w bs left h = (NSend, h.0)
named (SlipAgain key) w bs left h = (NSlip, h.0)
named (TakeIn s) w bs left h = (NTake, h.0)
named (HandOut key) w bs left h = (NHand, h.0)
named (Pay key) w bs left h = (NPay, h.0)
named (WhereIs key) w bs left h = (NWhere, h.0)
named (Here from) w bs left h = (NHere, h.0)
named Sums w bs left h = (NSums, h.0)

bytes_no_name : (n : CallName) → codes "bytes" ≡ name_word n → ⊥
unfolding first last
bytes_no_name NAccept e = absurd (omega (arith, ap first e))
bytes_no_name NSend e = absurd (omega (arith, ap first e))
bytes_no_name NSlip e = absurd (omega (arith, ap first e))
bytes_no_name NTake e = absurd (omega (arith, ap first e))
bytes_no_name NHand e = absurd (omega (arith, ap first e))
bytes_no_name NPay e = absurd (omega (arith, ap first e))
bytes_no_name NWhere e = absurd (omega (arith, ap first e))
bytes_no_name NHere e = absurd (omega (arith, ap first e))
bytes_no_name NSums e = absurd (omega (arith, ap first e))

tick_no_name : (n : CallName) → codes "tick" ≡ name_word n → ⊥
unfolding first last
tick_no_name NAccept e = absurd (omega (arith, ap first e))
tick_no_name NSend e = absurd (omega (arith, ap first e))
tick_no_name NSlip e = absurd (omega (arith, ap first e))
tick_no_name NTake e = absurd (omega (arith, ap last e))
tick_no_name NHand e = absurd (omega (arith, ap first e))
tick_no_name NPay e = absurd (omega (arith, ap first e))
tick_no_name NWhere e = absurd (omega (arith, ap first e))
tick_no_name NHere e = absurd (omega (arith, ap first e))
tick_no_name NSums e = absurd (omega (arith, ap first e))

-- where something is left, and no number stands first, a line goes on behind its first word
pub line_from : (line : Line) (bs : List ℕ) → bs ≢ [] → first_passes is_ascii_digit bs ≡ false → Stand (line_tokens line) bs [] → GoOn (take_while is_ascii_alphabetic bs) (line_tokens line) (behind is_ascii_alphabetic bs) []
line_from Blank bs some none h = absurd (some h)
line_from (Opening offices parcels) bs some none h = absurd (false≢true (sym none ∙ h.0.0))
line_from (Call at call) bs some none h = h
line_from (Bytes at bytes) bs some none h = h
line_from (Tick at) bs some none h = h
line_from AllTick bs some none h = h
line_from (Letter n) bs some none h = h
line_from AllLetters bs some none h = h
line_from AllLettersLastFirst bs some none h = h

-- and that word begins a line
pub beginning_of : (line : Line) (w bs left : List ℕ) → GoOn w (line_tokens line) bs left → (b : Beginning) × (w ≡ beginning_word b)
beginning_of Blank w bs left h = absurd h
beginning_of (Opening offices parcels) w bs left h = absurd h
beginning_of (Call at call) w bs left h = (BAt, h.0)
beginning_of (Bytes at bytes) w bs left h = (BAt, h.0)
beginning_of (Tick at) w bs left h = (BAt, h.0)
beginning_of AllTick w bs left h = (BAll, h.0)
beginning_of (Letter n) w bs left h = (BLetter, h.0)
beginning_of AllLetters w bs left h = (BAll, h.0)
beginning_of AllLettersLastFirst w bs left h = (BAll, h.0)

-- where a call's name stands first, what goes on at an office is a call
pub called : (line : Line) (n : CallName) (at : ℕ) (bs : List ℕ) → GoOnAt at line bs [] → take_while is_ascii_alphabetic bs ≡ name_word n → (call : ACall) × (line ≡ Call at call) × GoOn (name_word n) (call_tokens call) (behind is_ascii_alphabetic bs) []
called (Call o call) n at bs h e =
    (call, ap (λ k. Call k call) (sym h.0), subst (λ w. GoOn w (call_tokens call) (behind is_ascii_alphabetic bs) []) e (call_from call bs [] h.1))
called (Bytes o bytes) n at bs h e = absurd (bytes_no_name n (sym h.1.0 ∙ e))
called (Tick o) n at bs h e = absurd (tick_no_name n (sym h.1.0 ∙ e))
called Blank n at bs h e = absurd h
called (Opening offices parcels) n at bs h e = absurd h
called AllTick n at bs h e = absurd h
called (Letter k) n at bs h e = absurd h
called AllLetters n at bs h e = absurd h
called AllLettersLastFirst n at bs h e = absurd h

-- what goes on at an office begins with a word that says what is done
pub deed_of : (line : Line) (at : ℕ) (bs left : List ℕ) → GoOnAt at line bs left → (d : Deed) × (take_while is_ascii_alphabetic bs ≡ deed_word d)
deed_of (Call o call) at bs left h = let n = named call _ _ left (call_from call bs left h.1) in (DCall n.0, n.1)
deed_of (Bytes o bytes) at bs left h = (DBytes, h.1.0)
deed_of (Tick o) at bs left h = (DTick, h.1.0)
deed_of Blank at bs left h = absurd h
deed_of (Opening offices parcels) at bs left h = absurd h
deed_of AllTick at bs left h = absurd h
deed_of (Letter k) at bs left h = absurd h
deed_of AllLetters at bs left h = absurd h
deed_of AllLettersLastFirst at bs left h = absurd h

-- behind "at", an office's number and ":"
pub behind_at : (line : Line) (at : ℕ) (bs left : List ℕ) → GoOn (codes "at") (line_tokens line) bs left → first_number bs ≡ at → GoOnAt at line (past_mark (past_number bs)) left
unfolding first last
behind_at (Call o call) at bs left h e = (sym e ∙ h.1.1, h.1.2.1)
behind_at (Bytes o bytes) at bs left h e = (sym e ∙ h.1.1, h.1.2.1)
behind_at (Tick o) at bs left h e = (sym e ∙ h.1.1, h.1.2.1)
behind_at Blank at bs left h e = absurd h
behind_at (Opening offices parcels) at bs left h e = absurd h
behind_at AllTick at bs left h e = absurd (omega (arith, ap last h.0))
behind_at (Letter k) at bs left h e = absurd (omega (arith, ap first h.0))
behind_at AllLetters at bs left h e = absurd (omega (arith, ap last h.0))
behind_at AllLettersLastFirst at bs left h e = absurd (omega (arith, ap last h.0))
