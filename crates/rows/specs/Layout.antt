-- What an office's memory means: words of four bytes, in rows. Row 0 is the head; each later row has one parcel, in
-- the order in which they came.
use Rattle.std.specs.Prelude.{◌≡◌, ℕ, ◌+◌, ◌*◌, ◌/◌, ◌%◌, ◌<◌, ◌≤◌, Bool, not, ◌≢◌, List, [], ◌∷◌, length, map, ◌==◌, bit_and, bit_or, slice_index, Option, Some, None}
use Rattle.std.specs.List.{range_with_len}
use Rattle.parcels.specs.Numbers.{four_bytes, kind_number}
use Rattle.parcels.specs.Book.{pick, Book}
use Rattle.parcels.specs.declared.Kind.{Kind}
use Rattle.parcels.specs.declared.Kind.TheVariants.{Accepted, SentOn, ComeIn, HandedOut}
use Rattle.parcels.specs.declared.Entry.{Entry}
use Rattle.rows.specs.declared.Head.{Head}
use Rattle.rows.specs.declared.Link.{Link}

-- how many words a row has
abbrev pub row_words : ℕ
row_words = 24

-- how many words a limit of parcels asks for: a row for each, and the head
abbrev pub words_for : ℕ → ℕ
words_for parcels = row_words * (parcels + 1)

-- a row lies in memory
abbrev pub HasRow : List ℕ → ℕ → Type 0
HasRow m row = words_for row ≤ length m

-- a word of a row
abbrev pub word : List ℕ → ℕ → ℕ → ℕ
word m row i = slice_index m (row_words * row + i)

-- the kind with this number, of two bits
abbrev pub kind_numbered : ℕ → Kind
kind_numbered n = pick (n == 0) Accepted (pick (n == 1) SentOn (pick (n == 2) ComeIn HandedOut))

-- the kind of step in the two lowest bits of a row's marks
abbrev pub kind_marked : ℕ → Kind
kind_marked marks = kind_numbered (bit_and marks 3)

-- the next bit says whether it was paid
abbrev pub paid_marked : ℕ → Bool
paid_marked marks = not (bit_and marks 4 == 0)

-- the marks of a kind of step, paid or not
abbrev pub marks_of : Kind → Bool → ℕ
marks_of kind paid = bit_or (kind_number kind) (pick paid 4 0)

-- the words of an entry
abbrev pub entry_words : Entry → List ℕ
entry_words e = e.key ∷ (e.step % four_bytes ∷ (e.step / four_bytes ∷ (marks_of e.kind e.paid ∷ (e.to ∷ (e.dest ∷ (e.amount ∷ []))))))

-- the entry in a row
unfoldable pub entry_at : List ℕ → ℕ → Entry
entry_at m row =
    record {
      key = word m row 0;
      step = word m row 1 + four_bytes * word m row 2;
      kind = kind_marked (word m row 3);
      to = word m row 4;
      dest = word m row 5;
      amount = word m row 6;
      paid = paid_marked (word m row 3);
    }

-- the place of a link's word
abbrev pub link_word : Link → ℕ
link_word l = row_words * l.row + pick l.right 8 7

-- the row that a link leads to, or 0 for none
unfoldable pub link_at : List ℕ → Link → ℕ
link_at m l = slice_index m (link_word l)

-- the row that such a number names, or none
abbrev pub row_named : ℕ → Option ℕ
row_named n = pick (n == 0) None (Some n)

-- the words of the counts in the head
abbrev pub head_words : Head → List ℕ
head_words h = h.count ∷ (h.accepted ∷ [])

-- those counts
unfoldable pub head_at : List ℕ → Head
head_at m = record { count = word m 0 0; accepted = word m 0 1 }

-- the book that the memory means: the entries of as many rows as the head counts
unfoldable pub book_at : List ℕ → Book
book_at m = map (entry_at m) (range_with_len 1 (head_at m).count)

-- the words from one place up to another may have changed, and no others
abbrev pub SameOutside : ℕ → ℕ → List ℕ → List ℕ → Type 0
SameOutside from to m m' = (i : ℕ) → (from ≤ i → i < to → ⊥) → slice_index m' i ≡ slice_index m i

-- the words that are kept free stayed as they were: in each row those behind the links, in the head also those between
-- the counts and the root
abbrev pub SameSpare : List ℕ → List ℕ → Type 0
SameSpare m m' = ((row i : ℕ) → 9 ≤ i → i < row_words → word m' row i ≡ word m row i) × ((i : ℕ) → 2 ≤ i → i < 7 → word m' 0 i ≡ word m 0 i)

-- an entry was written into a row, and nothing else changed
pub record EntryWritten (m m' : List ℕ) (row : ℕ) (e : Entry) : Type 0 where
  pub entry : entry_at m' row ≡ e
  pub others : (r : ℕ) → r ≢ row → entry_at m' r ≡ entry_at m r
  pub links : (l : Link) → link_at m' l ≡ link_at m l
  pub head : 1 ≤ row → head_at m' ≡ head_at m
  pub rest : SameOutside (row_words * row) (row_words * row + 7) m m'

-- a link was led to a row, and nothing else changed
pub record LinkWritten (m m' : List ℕ) (l : Link) (to : ℕ) : Type 0 where
  pub link : link_at m' l ≡ to
  pub others : (k : Link) → k ≢ l → link_at m' k ≡ link_at m k
  pub entries : (r : ℕ) → entry_at m' r ≡ entry_at m r
  pub head : head_at m' ≡ head_at m
  pub rest : SameOutside (row_words * l.row + 7) (row_words * l.row + 9) m m'

-- the counts were written, and nothing else changed
pub record HeadWritten (m m' : List ℕ) (h : Head) : Type 0 where
  pub head : head_at m' ≡ h
  pub entries : (r : ℕ) → 1 ≤ r → entry_at m' r ≡ entry_at m r
  pub links : (l : Link) → link_at m' l ≡ link_at m l
  pub rest : SameOutside 0 2 m m'
