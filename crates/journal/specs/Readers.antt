-- The value of a reader of a segment's records in contracts.
use Rattle.std.specs.Prelude.{ℕ}
use Rattle.journal.specs.Reading.{Place}
use Rattle.journal.specs.Windows.{WindowValue}

-- the reader's window, the number of records that it has read, and the number and length of the records that remain in
-- its current batch
pub record ReaderValue : Type 0 where
  pub window : WindowValue
  pub number : ℕ
  pub left : ℕ
  pub size : ℕ

-- the place of a reader
abbrev pub place_of : ReaderValue → Place
place_of reader = record { at = reader.window.at; number = reader.number; left = reader.left; size = reader.size }
