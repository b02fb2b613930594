-- The serials of the ports that changed.
use Rattle.std.proofs.Common.{◌≡◌, ℕ, Bool, false, ◌||◌, List, [], ◌∷◌, Option, None, Some, option_map, option_and_then, refl, sym, ◌∙◌, ap}
use Rattle.std.specs.Ordering.{nat_cmp, eq_by_cmp}
use Rattle.std.specs.FinMap as finmap
use Rattle.std.proofs.lemmas.List.{length-map}
use Rattle.ipc_laws.specs.MapLaws.{get-map_values}
use Rattle.ipc_model.specs.declared.port.PortState.{PortState}
use Rattle.live_ports.specs.PortSlot.{PortSlot}
use Rattle.live_ports.specs.Seen.{Ports, as_seen, lives_in, seen, seen_message}
use Rattle.live_ports.specs.Tables.{AreMarked, Slots, before_of, current_of, former_ports, present_ports}
use Rattle.live_ports.specs.Touched.{is_listed}
use Rattle.tracked_map.specs.Slots.{get_picked}
use Rattle.tracked_map.specs.Touched.{is_touched}
use Rattle.waiting.specs.Waiting.{occupancy}

-- each port whose serial isn't in the list is live if it was live before, and then has as many messages, the same limit
-- and the same set
abbrev pub AreNoted : Ports → Ports → List ℕ → Type 0
AreNoted before current serials =
    (serial : ℕ) → is_touched serial serials ≡ false
    → option_map occupancy (finmap.get current serial) ≡ option_map occupancy (finmap.get before serial)

listed_touched : (key : ℕ) (keys : List ℕ) → is_listed key keys ≡ is_touched key keys
listed_touched key [] = refl
listed_touched key (k ∷ ks) = ap (λ (b : Bool). eq_by_cmp nat_cmp key k || b) (listed_touched key ks)

-- replacing dead ports in messages doesn't change how full a queue is
seen_occupancy : (raw : Ports) (serial : ℕ)
    → option_map occupancy (finmap.get (as_seen raw) serial) ≡ option_map occupancy (finmap.get raw serial)
unfolding as_seen
seen_occupancy raw serial =
    ap (option_map occupancy) (get-map_values (seen (lives_in raw)) raw serial) ∙ go (finmap.get raw serial)
  where
    go : (o : Option PortState) → option_map occupancy (option_map (seen (lives_in raw)) o) ≡ option_map occupancy o
    go None = refl
    go (Some port) =
        ap (λ (n : ℕ). Some (record { limit = port.limit; held = n; set = port.set }))
        (length-map port.messages (seen_message (lives_in raw)))

pub marked_noted : (slots : Slots) (touched : List ℕ) → AreMarked slots touched
    → AreNoted (as_seen (former_ports slots)) (as_seen (present_ports slots)) touched
marked_noted slots touched marked serial off =
    seen_occupancy (present_ports slots) serial
    ∙ ap (option_map occupancy) (get_picked current_of slots serial ∙ same (finmap.get slots serial) refl
    ∙ sym (get_picked before_of slots serial))
    ∙ sym (seen_occupancy (former_ports slots) serial)
  where
    same : (o : Option PortSlot) → finmap.get slots serial ≡ o
        → option_and_then current_of o ≡ option_and_then before_of o
    same None at = refl
    same (Some slot) at = sym (marked serial slot at (listed_touched serial touched ∙ off)).0
