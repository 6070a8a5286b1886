-- The first rows of a book, as a loop goes through them.
use Rattle.std.proofs.Common.{◌≡◌, ℕ, ◌+◌, ◌≤◌, List, [], ◌∷◌, ◌++◌, map, ap, ◌∙◌, arith}
use Rattle.std.specs.List.{range_with_len}
use Rattle.std.proofs.lemmas.List.FromFn.{map-range_with_len_more}
use Rattle.parcels.specs.Book.{Book, counted_here, first_with, collected_for, paid_for, how_many_here, first_here, collected, paid_out}
use Rattle.parcels.specs.declared.Entry.{Entry}
use Rattle.rows.specs.Layout.{head_at, entry_at, book_at}
use Rattle.rows.specs.declared.Head.{Head}
use Rattle.laws.proofs.Sums.{IsSum, how_many_here_is, collected_is, paid_out_is}
use Rattle.laws.proofs.Append.{sum_append, first_here_append}

-- the entries of the first n rows
abbrev pub first_rows : List ℕ → ℕ → Book
first_rows m n = map (entry_at m) (range_with_len 1 n)

-- with as many as the head counts, they are the book
pub all_rows : (m : List ℕ) (n : ℕ) (h : Head) → h ≡ head_at m → n ≤ h.count → h.count ≤ n → first_rows m n ≡ book_at m
unfolding book_at
all_rows m n h is low high = ap (first_rows m) (omega (arith, low, high) ∙ ap (λ (x : Head). x.count) is)

-- one row more comes behind them
row_behind : (m : List ℕ) (n : ℕ) → first_rows m (n + 1) ≡ first_rows m n ++ entry_at m (n + 1) ∷ []
row_behind m n = map-range_with_len_more (entry_at m) 1 n (n + 1) (omega arith)

-- what is told of them, with that row too
sum_more : {sum : Book → ℕ} {each : Entry → ℕ} → IsSum sum each → (m : List ℕ) (n : ℕ) → sum (first_rows m (n + 1)) ≡ sum (first_rows m n) + each (entry_at m (n + 1))
sum_more {sum} s m n = ap sum (row_behind m n) ∙ sum_append s (first_rows m n) (entry_at m (n + 1))

pub here_more : (m : List ℕ) (n : ℕ) → how_many_here (first_rows m (n + 1)) ≡ how_many_here (first_rows m n) + counted_here (entry_at m (n + 1))
here_more = sum_more how_many_here_is

pub collected_more : (m : List ℕ) (n : ℕ) → collected (first_rows m (n + 1)) ≡ collected (first_rows m n) + collected_for (entry_at m (n + 1))
collected_more = sum_more collected_is

pub paid_out_more : (m : List ℕ) (n : ℕ) → paid_out (first_rows m (n + 1)) ≡ paid_out (first_rows m n) + paid_for (entry_at m (n + 1))
paid_out_more = sum_more paid_out_is

pub first_more : (m : List ℕ) (n from : ℕ) → first_here (first_rows m (n + 1)) from ≡ first_with from (entry_at m (n + 1)) (first_here (first_rows m n) from)
first_more m n from = ap (λ b. first_here b from) (row_behind m n) ∙ first_here_append (first_rows m n) (entry_at m (n + 1)) from
