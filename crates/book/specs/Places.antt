-- Where a book has a parcel, or would have it.
use Rattle.std.specs.Prelude.{ℕ, List}
use Rattle.book.specs.Search.{RowOf}
use Rattle.book.specs.declared.Place.{Place}

-- it is what the search for its key comes to in this memory
pub record IsPlace (m : List ℕ) (p : Place) : Type 0 where
  pub there : RowOf m p.key p.row
