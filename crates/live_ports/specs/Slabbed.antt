-- The values in a slab by serials that are used once, while the slab reuses its keys.
use Rattle.std.specs.Prelude.{◌≡◌, ◌≢◌, ℕ, true, Some, is_some, option_map}
use Rattle.std.specs.Ordering.{nat_cmp}
use Rattle.std.specs.FinMap as finmap
use Rattle.slab.specs.Slab as slab
use Rattle.slab.specs.Slab.{Slab}
use Rattle.tracked_map.specs.Slots.{picked}

-- the key of each serial
abbrev pub Keys : Type 0
Keys = finmap.FinMap {K = ℕ} nat_cmp ℕ

module _ {Y : Type 0} where
  -- the value of each serial
  abbrev pub by_serial : Slab Y → Keys → finmap.FinMap {K = ℕ} nat_cmp Y
  by_serial values keys = picked (slab.get values) keys

  -- each serial has its own key, with a value, and the slab has no other values
  pub record AreKeyed (values : Slab Y) (keys : Keys) : Type 0 where
    pub there : (serial key : ℕ) → finmap.get keys serial ≡ Some key → is_some (slab.get values key) ≡ true
    pub apart : (serial other key : ℕ) → finmap.get keys serial ≡ Some key → finmap.get keys other ≡ Some key
        → serial ≡ other
    pub found : (key : ℕ) → is_some (slab.get values key) ≡ true → (serial : ℕ) × (finmap.get keys serial ≡ Some key)

  -- the value of one key changed
  pub record IsChangedAt (f : Y → Y) (old new : Slab Y) (key : ℕ) : Type 0 where
    pub changed : slab.get new key ≡ option_map f (slab.get old key)
    pub others : (other : ℕ) → other ≢ key → slab.get new other ≡ slab.get old other
