-- Hops that are collected port by port.
use Rattle.std.proofs.Common.{◌≡◌, inl, inr, ℕ, zero, suc, ◌+◌, ◌<◌, ◌≤◌, nat_lt, Bool, true, false, cond, Option, None, Some, is_some, option_and_then, refl, sym, ◌∙◌, ap, arith}
use Rattle.std.specs.Cmp.{nat_cmp_total}
use Rattle.std.specs.Ordering.{nat_cmp, eq_by_cmp}
use Rattle.std.specs.FinMap.{FinMap, empty, get, len, get-empty, get-insert, len-empty, empty_of_len, same_map, nat_cmp-IsAntisymmetric}
use Rattle.std.proofs.lemmas.Bool.{le-ltb, lt-ltb, ltb-true, ltb-false}
use Rattle.ipc_laws.specs.MapSums.{key_is, same_key}
use Rattle.ipc_laws.specs.Others.{number_decided}
use Rattle.ipc_model.specs.state.Circular.{carrier_of}
use Rattle.ipc_model.specs.state.Ipc.{Ipc, lives}
use Rattle.ipc_state.specs.Passed.{IsNextPort}
use Rattle.snapshot_loading.specs.Climbing.{EndsSomewhere, doubled, twice, up_of, with_hop}

abbrev pub Hops : Type 0
Hops = FinMap {K = ℕ} nat_cmp ℕ

-- the hops of the ports below a number
abbrev pub AreBelow : (ℕ → Option ℕ) → ℕ → Hops → Type 0
AreBelow f at up = (q : ℕ) → get up q ≡ cond (nat_lt q at) (f q) None

-- only live ports have hops
abbrev pub OnlyLive : Ipc → (ℕ → Option ℕ) → Type 0
OnlyLive state f = (q : ℕ) → lives state q ≡ false → f q ≡ None

pub none_below : (f : ℕ → Option ℕ) (up : Hops) → up ≡ empty → AreBelow f 0 up
none_below f up is q =
    ap (λ (m : Hops). get m q) is ∙ get-empty nat_cmp q
    ∙ sym (ap (λ (b : Bool). cond b (f q) None) (le-ltb q 0 (omega arith)))

module _ (state : Ipc) (f : ℕ → Option ℕ) (only : OnlyLive state f) where
  dead_from : (at q : ℕ) → ((s : ℕ) → at ≤ s → get state.ports s ≡ None) → at ≤ q → f q ≡ None
  dead_from at q none from = only q (ap is_some (none q from))

  pub one_more : (up next : Hops) (at serial : ℕ) → IsNextPort state.ports at (Some serial)
      → next ≡ with_hop up serial (f serial) → AreBelow f at up → AreBelow f (serial + 1) next
  one_more up next at serial is done below q =
      ap (λ (m : Hops). get m q) done ∙ here (f serial) refl (eq_by_cmp nat_cmp q serial) refl
    where
      before : eq_by_cmp nat_cmp q serial ≡ false → get up q ≡ cond (nat_lt q (serial + 1)) (f q) None
      before apart =
          below q ∙ elim (nat_lt q at) as (λ (b : Bool). nat_lt q at ≡ b
          → cond b (f q) None ≡ cond (nat_lt q (serial + 1)) (f q) None) [
            | true ↦ λ (less : _). sym (ap
                (λ (b : Bool). cond b (f q) None) (lt-ltb q (serial + 1) (omega (arith, ltb-true q at less, is.0))))
            | false ↦ λ (more : _). elim (nat_lt q (serial + 1))
                as (λ (b : Bool). nat_lt q (serial + 1) ≡ b → None ≡ cond b (f q) None) [
                  | true ↦ λ (under : _). sym (only q
                      (ap is_some (is.2 q (ltb-false q at more) (strictly q serial apart
                      (ltb-true q (serial + 1) under)))))
                  | false ↦ λ (_ : _). refl
                ] refl
          ] refl
        where
          strictly : (q serial : ℕ) → eq_by_cmp nat_cmp q serial ≡ false → q < serial + 1 → q < serial
          strictly q serial apart under = elim (number_decided q serial) as (λ _. q < serial) [
            | inl other ↦ omega (arith, other, under)
            | inr same ↦ absurd (cc (sym (ap (λ (n : ℕ). eq_by_cmp nat_cmp n serial) same ∙ same_key serial) ∙ apart))
          ]

      at_serial : (o : Option ℕ) → f serial ≡ o → o ≡ cond (nat_lt serial (serial + 1)) (f serial) None
      at_serial o it =
          sym it ∙ sym (ap (λ (b : Bool). cond b (f serial) None) (lt-ltb serial (serial + 1) (omega arith)))

      here : (o : Option ℕ) → f serial ≡ o → (b : Bool) → eq_by_cmp nat_cmp q serial ≡ b
          → get (with_hop up serial o) q ≡ cond (nat_lt q (serial + 1)) (f q) None
      here None it true same =
          let tie : q ≡ serial = key_is q serial same in
          ap (get up) tie ∙ below serial ∙ ap (λ (b : Bool). cond b (f serial) None) (le-ltb serial at is.0)
          ∙ at_serial None it ∙ ap (λ (n : ℕ). cond (nat_lt n (serial + 1)) (f n) None) (sym tie)
      here None it false apart = before apart
      here (Some to) it true same =
          get-insert nat_cmp_total up serial to q ∙ ap (λ (b : Bool). cond b (Some to) (get up q)) same
          ∙ at_serial (Some to) it ∙ ap (λ (n : ℕ). cond (nat_lt n (serial + 1)) (f n) None)
          (sym (key_is q serial same))
      here (Some to) it false apart =
          get-insert nat_cmp_total up serial to q ∙ ap (λ (b : Bool). cond b (Some to) (get up q)) apart ∙ before apart

  pub all_hops : (up : Hops) (at : ℕ) → ((s : ℕ) → at ≤ s → get state.ports s ≡ None) → AreBelow f at up → (q : ℕ)
      → get up q ≡ f q
  all_hops up at none below q =
      below q ∙ elim (nat_lt q at) as (λ (b : Bool). nat_lt q at ≡ b → cond b (f q) None ≡ f q) [
        | true ↦ λ (_ : _). refl
        | false ↦ λ (more : _). sym (dead_from at q none (ltb-false q at more))
      ] refl

pub up_only : (state : Ipc) → OnlyLive state (up_of state)
up_only state q dead = ap (λ (b : Bool). cond b (carrier_of state q) None) dead

pub twice_only : (state : Ipc) (f : ℕ → Option ℕ) → OnlyLive state f → OnlyLive state (twice f)
twice_only state f only q dead = ap (option_and_then f) (only q dead)

pub doubled_only : (state : Ipc) (k : ℕ) → OnlyLive state (doubled k (up_of state))
doubled_only state zero = up_only state
doubled_only state (suc k) = twice_only state (doubled k (up_of state)) (doubled_only state k)

-- an empty map has no hops
pub nowhere_none : (up : Hops) → len up ≡ 0 → (q : ℕ) → get up q ≡ None
nowhere_none up none q = ap (λ (m : Hops). get m q) (empty_of_len up none) ∙ get-empty nat_cmp q

pub none_nowhere : (up : Hops) → ((q : ℕ) → get up q ≡ None) → len up ≡ 0
none_nowhere up none =
    ap len (same_map nat_cmp_total nat_cmp-IsAntisymmetric up empty (λ q. none q ∙ sym (get-empty nat_cmp q)))
    ∙ len-empty nat_cmp ℕ

pub ends_here : (state : Ipc) (k : ℕ) (up : Hops) → ((q : ℕ) → get up q ≡ doubled k (up_of state) q) → len up ≡ 0
    → EndsSomewhere state
ends_here state k up is none = (k, λ q. sym (is q) ∙ nowhere_none up none q)
