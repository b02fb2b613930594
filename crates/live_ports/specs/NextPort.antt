-- A walk over the live ports. Each step takes the least serial from a given one on.
use Rattle.std.proofs.Common.{◌≡◌, ℕ, ◌+◌, ◌^◌, ◌<◌, ◌≤◌, Bool, true, false, nat_lt, Option, None, Some, IfSome, MatchOption, is_some, option_and_then, refl, sym, ◌∙◌, ap, arith}
use Rattle.std.proofs.lemmas.Bool.{ltb-true, ltb-false}
use Rattle.std.specs.FinMap.{get}
use Rattle.ipc_model.specs.declared.port.PortState.{PortState}
use Rattle.live_ports.specs.Seen.{Ports, as_seen}
use Rattle.live_ports.specs.SeenLaws.{lives_seen}
use Rattle.live_ports.specs.Tables.{Slots, current_of, present_ports}
use Rattle.tracked_map.specs.Slots.{get_picked}

-- the least serial from a given one on that belongs to a live port
abbrev pub IsNextPort : Ports → ℕ → Option ℕ → Type 0
IsNextPort ports from found = MatchOption found ((serial : ℕ) → from ≤ serial → get ports serial ≡ None)
    (λ next. (from ≤ next) × (is_some (get ports next) ≡ true)
    × ((serial : ℕ) → from ≤ serial → serial < next → get ports serial ≡ None))

-- the same for serials of 64 bits
abbrev pub IsNextWord : Ports → ℕ → Option ℕ → Type 0
IsNextWord ports from found =
    MatchOption found ((serial : ℕ) → from ≤ serial → serial < 2 ^ 64 → get ports serial ≡ None)
    (λ next. (from ≤ next) × (is_some (get ports next) ≡ true)
    × ((serial : ℕ) → from ≤ serial → serial < next → get ports serial ≡ None))

-- no live port has a serial from `from` up to `at`
abbrev pub ArePassed : Ports → ℕ → ℕ → Type 0
ArePassed ports from at = (serial : ℕ) → from ≤ serial → serial < at → get ports serial ≡ None

nothing : {X : Type 0} (o : Option X) → is_some o ≡ false → o ≡ None
nothing None none = refl
nothing (Some x) none = absurd (cc none)

below_or_not : (a b : ℕ) (P : Type 0) → (a < b → P) → (b ≤ a → P) → P
below_or_not a b P first second =
    elim (nat_lt a b) as (λ (t : Bool). nat_lt a b ≡ t → P)
    [ true ↦ λ (e : _). first (ltb-true a b e) | false ↦ λ (e : _). second (ltb-false a b e) ] refl

module _ (slots : Slots) (from at : ℕ) (passed : ArePassed (present_ports slots) from at) where
  -- serials without slots are skipped
  pub passed_on : (next : ℕ) → ((serial : ℕ) → at ≤ serial → serial < next → get slots serial ≡ None)
      → ArePassed (present_ports slots) from next
  passed_on next none = λ serial le below. below_or_not serial at (get (present_ports slots) serial ≡ None)
      (λ less. passed serial le less)
      (λ more. get_picked current_of slots serial ∙ ap (option_and_then current_of) (none serial more below))

  -- a dead port is skipped
  pub passed_dead : is_some (get (present_ports slots) at) ≡ false → ArePassed (present_ports slots) from (at + 1)
  passed_dead gone = λ serial le below. below_or_not serial at (get (present_ports slots) serial ≡ None)
      (λ less. passed serial le less)
      (λ more. ap (get (present_ports slots)) (omega (arith, more, below))
      ∙ nothing (get (present_ports slots) at) gone)

-- The next port with messages as they are now.
module _ (raw : Ports) (from : ℕ)
    (small : (serial : ℕ) (port : PortState) → get raw serial ≡ Some port → serial < 2 ^ 64) where
  unseen : (serial : ℕ) → get raw serial ≡ None → get (as_seen raw) serial ≡ None
  unseen serial none = nothing (get (as_seen raw) serial) (lives_seen raw serial ∙ ap is_some none)

  pub next_seen : (found : Option ℕ) → IsNextWord raw from found → IsNextPort (as_seen raw) from found
  next_seen None none = λ serial le. unseen serial (by serial le (get raw serial) refl)
    where
      by : (serial : ℕ) → from ≤ serial → (o : Option PortState) → get raw serial ≡ o → get raw serial ≡ None
      by serial le None is = is
      by serial le (Some port) is = none serial le (small serial port is)
  next_seen (Some next) is = (is.0, lives_seen raw next ∙ is.1, λ serial le below. unseen serial (is.2 serial le below))

-- the serial that was found is below a bound of all serials
pub next_below : (raw : Ports) (from limit : ℕ)
    → ((serial : ℕ) (port : PortState) → get raw serial ≡ Some port → serial < limit) → (found : Option ℕ)
    → IsNextWord raw from found → IfSome found (λ next. next < limit)
next_below raw from limit small None none = tt
next_below raw from limit small (Some next) is = by (get raw next) refl
  where
    by : (o : Option PortState) → get raw next ≡ o → next < limit
    by None none = absurd (cc (sym is.1 ∙ ap is_some none))
    by (Some port) there = small next port there
