-- A port's oldest message is read and removed.
use Rattle.std.proofs.Common.{◌≡◌, ℕ, ◌<◌, ◌≤◌, ◌++◌, Bool, cond, List, [], ◌∷◌, take, drop, flat_map, length, slice_index_or, MatchOption, Bor, Option, None, Some, option_map, refl, sym, ◌∙◌, ap, arith}
use Rattle.std.specs.Cmp.{nat_cmp_total}
use Rattle.std.specs.FinMap.{get, insert, get-insert}
use Rattle.ipc_laws.specs.ListLaws.{some_same}
use Rattle.ipc_laws.specs.MapSums.{insert-insert, same_key}
use Rattle.ipc_model.specs.declared.message.Message.{Message}
use Rattle.ipc_model.specs.declared.port.PortState.{PortState}
use Rattle.ipc_model.specs.effects.Effects.{Effect, releases_of}
use Rattle.ipc_state.specs.Oldest.{IsOldest, counted_on, oldest_gone}
use Rattle.ports.specs.Passed.{changed, numbers_of, with_numbers, without_first, PortNumbers, TrackedPorts, Ports, seen_message}

pub is_oldest : (live : ℕ → Bool) (messages : List Message) (found : Option (Bor Message))
    → MatchOption found (length messages ≤ 0)
    (λ message. (0 < length messages)
    × (seen_message live message.now ≡ slice_index_or messages 0 (seen_message live message.now)))
    → IsOldest live messages found
is_oldest live [] None none = refl
is_oldest live (first ∷ messages) None none = absurd (omega (arith, none))
is_oldest live [] (Some message) is = absurd (omega (arith, is.0))
is_oldest live (first ∷ messages) (Some message) is = ap (λ (m : Message). m ∷ messages) (sym is.1)

alone : (l : List Effect) → l ≡ l ++ []
alone [] = refl
alone (e ∷ l) = ap (λ (k : List Effect). e ∷ k) (alone l)

-- the releases of the oldest message, if there is one
pub oldest_released : (messages : List Message) (message : Message) (old new : List Effect)
    → messages ≡ message ∷ drop 1 messages → new ≡ old ++ releases_of message
    → new ≡ old ++ flat_map releases_of (take 1 messages)
oldest_released [] message old new is at = absurd (cc is)
oldest_released (first ∷ messages) message old new is at =
    at ∙ ap (λ (l : List Effect). old ++ l)
    (alone (releases_of message) ∙ ap (λ (ms : List Message). flat_map releases_of (take 1 ms)) (sym is))

pub none_released : (messages : List Message) (old : List Effect) → messages ≡ []
    → old ≡ old ++ flat_map releases_of (take 1 messages)
none_released messages old none =
    alone old ∙ ap (λ (ms : List Message). old ++ flat_map releases_of (take 1 ms)) (sym none)

-- a message is removed, then the sequence number is incremented
pub taken_counted : (ports : Ports) (serial : ℕ) (numbers : PortNumbers)
    → Some numbers ≡ option_map numbers_of (get ports serial)
    → changed (changed ports serial without_first) serial (with_numbers (counted_on numbers))
    ≡ changed ports serial oldest_gone
taken_counted ports serial numbers is = by (get ports serial) is
  where
    by : (o : Option PortState) → Some numbers ≡ option_map numbers_of o
        → changed (elim o as (λ _. Ports) [ None ↦ ports | Some port ↦ insert ports serial (without_first port) ])
        serial (with_numbers (counted_on numbers))
        ≡ elim o as (λ _. Ports) [ None ↦ ports | Some port ↦ insert ports serial (oldest_gone port) ]
    by None none = absurd (cc none)
    by (Some port) some =
        let there : get (insert ports serial (without_first port)) serial ≡ Some (without_first port) =
        get-insert nat_cmp_total ports serial (without_first port) serial ∙ ap
        (λ (b : Bool). cond b (Some (without_first port)) (get ports serial)) (same_key serial) in
        let alike : numbers ≡ numbers_of port = some_same numbers (numbers_of port) some in
        ap (λ (o : Option PortState). elim o as (λ _. Ports) [
          | None ↦ insert ports serial (without_first port)
          | Some p ↦
              insert (insert ports serial (without_first port)) serial (with_numbers (counted_on numbers) p)
        ]) there
        ∙ insert-insert ports serial (without_first port) (with_numbers (counted_on numbers) (without_first port))
        ∙ ap (λ (n : PortNumbers). insert ports serial (with_numbers (counted_on n) (without_first port))) alike

pub taken_and_counted : (old mid new : TrackedPorts) (serial : ℕ) (numbers counted : PortNumbers)
    → Some numbers ≡ option_map numbers_of (get old.current.ports serial) → counted ≡ counted_on numbers
    → mid ≡ record old { current = record old.current { ports = changed old.current.ports serial without_first } }
    → new ≡ record mid {
      current = record mid.current
          { ports = changed mid.current.ports serial (with_numbers counted) };
    }
    → new ≡ record old { current = record old.current { ports = changed old.current.ports serial oldest_gone } }
taken_and_counted old mid new serial numbers counted has is took set =
    set ∙ ap (λ (t : TrackedPorts). record t
    { current = record t.current { ports = changed t.current.ports serial (with_numbers counted) } }) took
    ∙ ap (λ (ports : Ports). record old { current = record old.current { ports = ports } })
    (ap (λ (n : PortNumbers). changed (changed old.current.ports serial without_first) serial (with_numbers n)) is
    ∙ taken_counted old.current.ports serial numbers has)
