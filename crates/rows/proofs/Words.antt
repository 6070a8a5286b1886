-- What a row means after some words of memory were written.
use Rattle.std.proofs.Common.{◌≡◌, ℕ, ◌+◌, ◌*◌, ◌/◌, ◌%◌, ◌<◌, ◌≤◌, Bool, ◌≢◌, List, ◌++◌, length, get_or, set, drop, refl, sym, ap, ◌∙◌, arith, lit<, rules}
use borrow.Rule.Slice.PartMut.{put_mid}
use Rattle.std.proofs.lemmas.List.{places, get_or-set_same, get_or-set_other}
use Rattle.parcels.specs.Numbers.{four_bytes}
use Rattle.parcels.specs.declared.Kind.{Kind}
use Rattle.parcels.specs.declared.Entry.{Entry}
use Rattle.rows.specs.declared.Head.{Head}
use Rattle.rows.specs.declared.Link.{Link}
use Rattle.rows.specs.Layout.{row_words, words_for, word, entry_at, entry_words, marks_of, kind_marked, paid_marked, link_word, link_at, head_at, head_words, SameOutside, SameSpare, EntryWritten, LinkWritten, HeadWritten}

-- an entry whose words are the same is the same
pub same_entry : (m m' : List ℕ) (r : ℕ) → ((i : ℕ) → i < 7 → word m' r i ≡ word m r i) → entry_at m' r ≡ entry_at m r
unfolding entry_at
same_entry m m' r h = cc (h 0 (lit< tt), h 1 (lit< tt), h 2 (lit< tt), h 3 (lit< tt), h 4 (lit< tt), h 5 (lit< tt), h 6 (lit< tt))

-- an entry's marks mean its kind of step, and whether it was paid
marks_back : (k : Kind) (p : Bool) → (kind_marked (marks_of k p) ≡ k) × (paid_marked (marks_of k p) ≡ p)
marks_back k p = grind arith

-- an entry's words mean that entry
pub entry_back : (m : List ℕ) (r : ℕ) (e : Entry) → ((i : ℕ) → i < 7 → word m r i ≡ get_or (entry_words e) i 0) → entry_at m r ≡ e
unfolding entry_at
entry_back m r e h =
    let (kind, paid) = marks_back e.kind e.paid in
    let step : e.step % four_bytes + four_bytes * (e.step / four_bytes) ≡ e.step = omega arith in
    let by_fields : entry_at m r ≡ record { key = e.key; step = e.step; kind = e.kind; to = e.to; dest = e.dest; amount = e.amount; paid = e.paid } =
    cc (h 0 (lit< tt), h 1 (lit< tt), h 2 (lit< tt), h 3 (lit< tt), h 4 (lit< tt), h 5 (lit< tt), h 6 (lit< tt)) in
    by_fields

-- what a part that was written holds, and what lies outside it
pub inside : (a k i : ℕ) (xs ys : List ℕ) → length ys ≡ k → a + k ≤ length xs → i < k → get_or (put_mid a k xs ys) (a + i) 0 ≡ get_or ys i 0
inside a k i xs ys long room h = search (rules, places)

pub outside : (a k : ℕ) (xs ys : List ℕ) → length ys ≡ k → a + k ≤ length xs → SameOutside a (a + k) xs (put_mid a k xs ys)
outside a k xs ys long room i out = search (rules, places)

-- what changed no word of the head leaves its counts
pub same_head : (m m' : List ℕ) → word m' 0 0 ≡ word m 0 0 → word m' 0 1 ≡ word m 0 1 → head_at m' ≡ head_at m
unfolding head_at
same_head m m' p a = cc

-- a link's place is among the words of its row behind the entry
link_place : (l : Link) → (row_words * l.row + 7 ≤ link_word l) × (link_word l < row_words * l.row + 9)
link_place l = grind arith

-- two links at one place are one link
same_link : (k l : Link) → link_word k ≡ link_word l → k ≡ l
same_link k l e = grind arith

-- a write within the words of an entry
pub entry_written : (m m' : List ℕ) (row : ℕ) (e : Entry) →
    ((i : ℕ) → i < 7 → word m' row i ≡ get_or (entry_words e) i 0) → SameOutside (row_words * row) (row_words * row + 7) m m' → EntryWritten m m' row e
unfolding link_at
entry_written m m' row e words rest =
    record {
      entry = entry_back m' row e words;
      others = λ r ne. same_entry m m' r (λ i h. rest (row_words * r + i) (λ p q. ne (omega arith)));
      links = λ l. rest (link_word l) (λ p q. let place = link_place l in omega arith);
      head = λ one. same_head m m' (rest 0 (λ p q. omega arith)) (rest 1 (λ p q. omega arith));
      rest = rest;
    }

-- an entry's words, copied to the front of its row
pub entry_copied : (m ys : List ℕ) (row at k : ℕ) (e : Entry) → at ≡ row_words * row → k ≡ 7 → ys ≡ entry_words e → words_for row ≤ length m → EntryWritten m (put_mid at k m ys) row e
entry_copied m ys row at k e start seven is room =
    let long : length ys ≡ k = ap length is ∙ sym seven in
    let fits : row_words * row + k ≤ length m = omega arith in
    rw start (entry_written m (put_mid (row_words * row) k m ys) row e
    (λ i h. inside (row_words * row) k i m ys long fits (omega arith) ∙ (cc))
    (λ i out. outside (row_words * row) k m ys long fits i (λ p q. out p (omega arith))))

-- one word was written at a link's place
pub link_set : (m : List ℕ) (l : Link) (at to : ℕ) → at ≡ link_word l → words_for l.row ≤ length m → LinkWritten m (set m at to) l to
unfolding link_at
link_set m l at to e room =
    let place = link_place l in
    let below : at < length m = omega arith in
    let rest : (i : ℕ) → i ≢ at → get_or (set m at to) i 0 ≡ get_or m i 0 = λ i ne. get_or-set_other m at i to 0 ne in
    record {
      link = rw (← e) (get_or-set_same m at to 0 below);
      others = λ k ne. rest (link_word k) (λ p. ne (same_link k l (p ∙ e)));
      entries = λ r. same_entry m (set m at to) r (λ i h. rest (row_words * r + i) (λ p. omega arith));
      head = same_head m (set m at to) (rest 0 (λ p. omega arith)) (rest 1 (λ p. omega arith));
      rest = λ i out. rest i (λ p. out (omega arith) (omega arith));
    }

-- the counts' words, copied to the front of the memory
pub head_copied : (m ys : List ℕ) (h : Head) → ys ≡ head_words h → words_for 0 ≤ length m → HeadWritten m (ys ++ drop 2 m) h
unfolding link_at head_at
head_copied m ys h is room =
    let m' : List ℕ = head_words h ++ drop 2 m in
    let rest : (i : ℕ) → 2 ≤ i → get_or m' i 0 ≡ get_or m i 0 = λ i two. search (rules, places) in
    let counts : head_at m' ≡ record { count = h.count; accepted = h.accepted } = refl in
    rw is (record {
      head = counts;
      entries = λ r one. same_entry m m' r (λ i _. rest (row_words * r + i) (omega arith));
      links = λ l. rest (link_word l) (let place = link_place l in omega arith);
      rest = λ i out. rest i (grind (arith, out));
    })

-- each write leaves the words that are kept free
pub entry_spares : (m m' : List ℕ) (row : ℕ) (e : Entry) → 1 ≤ row → EntryWritten m m' row e → SameSpare m m'
entry_spares m m' row e one w = (λ r i low high. w.rest (row_words * r + i) (λ a b. omega arith), λ i low high. w.rest (row_words * 0 + i) (λ a b. omega arith))

pub link_spares : (m m' : List ℕ) (l : Link) (to : ℕ) → LinkWritten m m' l to → SameSpare m m'
link_spares m m' l to w = (λ r i low high. w.rest (row_words * r + i) (λ a b. omega arith), λ i low high. w.rest (row_words * 0 + i) (λ a b. omega arith))

pub head_spares : (m m' : List ℕ) (h : Head) → HeadWritten m m' h → SameSpare m m'
head_spares m m' h w = (λ r i low high. w.rest (row_words * r + i) (λ a b. omega arith), λ i low high. w.rest (row_words * 0 + i) (λ a b. omega arith))

pub spares_on : (m m' m'' : List ℕ) → SameSpare m m' → SameSpare m' m'' → SameSpare m m''
spares_on m m' m'' x y = (λ r i low high. y.0 r i low high ∙ x.0 r i low high, λ i low high. y.1 i low high ∙ x.1 i low high)
