-- A cache of the keys of serials. Each serial has one place in it, which it shares with other serials.
use Rattle.std.specs.Prelude.{◌≡◌, ◌≢◌, ◌≤◌, ◌%◌, ℕ, true, List, Option, None, Some, is_some, slice_index_or}
use Rattle.std.specs.FinMap as finmap
use Rattle.live_ports.specs.Slabbed.{Keys}

-- a serial and its key in each place that is in use
abbrev pub Places : Type 0
Places = List (Option (ℕ × ℕ))

abbrev pub at : Places → ℕ → Option (ℕ × ℕ)
at places place = slice_index_or places place None

-- the place of a serial
abbrev pub place_of : ℕ → ℕ
place_of serial = serial % 16384

-- if a serial's place contains that serial, it contains the serial's key
pub record AreRecent (places : Places) (keys : Keys) : Type 0 where
  pub found : (noted : ℕ × ℕ) → at places (place_of noted.0) ≡ Some noted → finmap.get keys noted.0 ≡ Some noted.1

-- one place got new content, or none
pub record IsNoted (content : Option (ℕ × ℕ)) (place : ℕ) (old new : Places) : Type 0 where
  pub here : (noted : ℕ × ℕ) → at new place ≡ Some noted → content ≡ Some noted
  pub others : (other : ℕ) → other ≢ place → at new other ≡ at old other

-- no serial above this one has a key
pub record IsLast (last : ℕ) (keys : Keys) : Type 0 where
  pub bound : (serial : ℕ) → is_some (finmap.get keys serial) ≡ true → serial ≤ last
