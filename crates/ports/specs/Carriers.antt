-- The first port whose queue carries a receive right, by the counts of receive rights.
use Rattle.std.proofs.Common.{◌≡◌, ℕ, zero, suc, ◌+◌, ◌^◌, ◌<◌, Bool, true, false, cond, ◌||◌, List, [], ◌∷◌, Option, None, Some, is_some, option_map, refl, sym, ◌∙◌, ap, arith}
use Rattle.std.specs.Prelude.{find}
use Rattle.std.specs.List.{list_any}
use Rattle.std.specs.FinMap.{get, entries}
use Rattle.ipc_laws.specs.MapSums.{weigh, weight}
use Rattle.ipc_model.specs.declared.message.Message.{Message}
use Rattle.ipc_model.specs.declared.port.PortState.{PortState}
use Rattle.ipc_model.specs.state.Circular.{carries, is_receive_right}
use Rattle.live_ports.specs.PortTable.{PortTable}
use Rattle.live_ports.specs.Seen.{Ports}
use Rattle.port_indexes.specs.Counts.{count_at, IsLeast}
use Rattle.port_space.specs.Finding.{first_entry, no_entry}
use Rattle.ports.specs.Counting.{receives, received}
use Rattle.ports.specs.Indexes.{Parts, AreIndexed, carried_by, carried_at}

abbrev some : ℕ → Bool
some zero = false
some (suc n) = true

some_add : (a b : ℕ) → some (a + b) ≡ (some a || some b)
some_add zero b = ap some (omega arith)
some_add (suc a) b = let more : suc a + b ≡ suc (a + b) = omega arith in ap some more

any_some : {A : Type 0} (p : A → Bool) (f : A → ℕ) → ((x : A) → p x ≡ some (f x)) → (xs : List A)
    → list_any p xs ≡ some (weigh f xs)
any_some p f same [] = refl
any_some p f same (x ∷ xs) = (λ i. same x i || any_some p f same xs i) ∙ sym (some_add (f x) (weigh f xs))

one_some : (b : Bool) → b ≡ some (cond {A = ℕ} b 1 0)
one_some true = refl
one_some false = refl

pub carries_some : (inner : ℕ) (port : PortState) → carries inner port ≡ some (carried_by inner port)
carries_some inner port =
    any_some _ (λ (m : Message). received inner m.rights)
    (λ m. any_some (is_receive_right inner) (receives inner) (λ r. one_some (is_receive_right inner r)) m.rights)
    port.messages

positive : (n : ℕ) → 0 < n → some n ≡ true
positive zero e = absurd (omega (arith, e))
positive (suc n) e = refl

carried_of : (ports : Ports) (inner outer : ℕ) (port : PortState) → get ports outer ≡ Some port
    → carried_at ports inner outer ≡ carried_by inner port
carried_of ports inner outer port there = ap (weight (λ _ p. carried_by inner p) outer) there

-- a queue whose count is 0 doesn't contain the receive right
before_none : (table : PortTable) (parts : Parts) (serial : ℕ) (q : ℕ) (port : PortState) → AreIndexed table parts
    → q < 2 ^ 64 → count_at parts.carriers serial q ≡ 0 → get table.ports q ≡ Some port → carries serial port ≡ false
before_none table parts serial q port are small none there =
    carries_some serial port ∙ ap some
    (sym (carried_of table.ports serial q port there) ∙ sym (are.carried serial q small) ∙ none)

pub carrier_is : (table : PortTable) (parts : Parts) (serial : ℕ) (found : Option ℕ) → AreIndexed table parts
    → IsLeast parts.carriers serial found
    → found ≡ option_map (λ e. e.0) (find (λ e. carries serial e.1) (entries table.ports))
carrier_is table parts serial None are none =
    sym (ap (option_map (λ (e : ℕ × PortState). e.0))
    (no_entry (λ (e : ℕ × PortState). carries serial e.1) table.ports (λ q port there.
    let small : q < 2 ^ 64 = omega (arith, are.small.below q (ap is_some there), are.small.fits) in
    before_none table parts serial q port are small (none q small) there)))
carrier_is table parts serial (Some least) are is = sym (by (get table.ports least) refl)
  where
    many : 0 < carried_at table.ports serial least
    many = omega (arith, is.1, are.carried serial least is.0)

    by : (o : Option PortState) → get table.ports least ≡ o
        → option_map (λ (e : ℕ × PortState). e.0)
        (find (λ (e : ℕ × PortState). carries serial e.1) (entries table.ports)) ≡ Some least
    by None none = absurd (omega (arith, many, ap (weight (λ _ p. carried_by serial p) least) none))
    by (Some port) there =
        first_entry (λ (e : ℕ × PortState). carries serial e.1) table.ports least port there
        (carries_some serial port ∙ positive (carried_by serial port)
        (omega (arith, many, carried_of table.ports serial least port there)))
        (λ q p less at. before_none table parts serial q p are (omega (arith, less, is.0)) (is.2 q less) at)
