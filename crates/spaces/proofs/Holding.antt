-- A name with a right to a port holds its receive right or another one.
use Rattle.std.proofs.Common.{◌≡◌, ℕ, ◌≤◌, ◌<◌, ◌/◌, ◌%◌, ◌^◌, min, Bool, true, false, cond, ◌||◌, nat_lt, Option, None, Some, option_and_then, refl, sym, ◌∙◌, ap, arith}
use Rattle.std.proofs.lemmas.Bool.{ltb-false, ltb-true}
use Rattle.ipc_model.specs.declared.entry.Entry.{Entry}
use Rattle.ipc_model.specs.declared.entry.Entry.TheVariants.{Port, SendOnce, Set, Dead}
use Rattle.ipc_model.specs.state.Ipc.{is_number, received_port, request_of}
use Rattle.spaces.specs.Burying.{IsNextMention}
use Rattle.spaces.specs.Indexes.{IsNextAt, lesser}
use Rattle.spaces.specs.Looking.{entry_in, port_named, port_shared, at_place}
use Rattle.spaces.specs.Slots.{SpaceMap}

either : (port : ℕ) (entry : Option Entry)
    → is_number (option_and_then port_named entry) port
    ≡ (is_number (option_and_then port_shared entry) port || is_number (option_and_then received_port entry) port)
either port None = refl
either port (Some (Port rights)) =
    elim rights.receive as (λ (b : Bool). is_number (Some rights.port) port
    ≡ (is_number (cond b None (Some rights.port)) port || is_number (cond b (Some rights.port) None) port)) [
      | true ↦ refl
      | false ↦ sym (or_false (is_number (Some rights.port) port))
    ]
  where
    or_false : (b : Bool) → (b || false) ≡ b
    or_false true = refl
    or_false false = refl
either port (Some (SendOnce other target)) = sym (or_false (is_number (Some other) port))
  where
    or_false : (b : Bool) → (b || false) ≡ b
    or_false true = refl
    or_false false = refl
either port (Some Set) = refl
either port (Some (Dead references)) = refl

neither : (a b : Bool) → a ≡ false → b ≡ false → (a || b) ≡ false
neither a b p q = ap (λ (x : Bool). x || b) p ∙ q

first_is : (a b : Bool) → a ≡ true → (a || b) ≡ true
first_is a b p = ap (λ (x : Bool). x || b) p

second_is : (a b : Bool) → b ≡ true → (a || b) ≡ true
second_is true b p = refl
second_is false b p = p

-- the lesser of the two first places, one for each kind of right, is the first place with any right
module _ (spaces : SpaceMap) (port from : ℕ) where
  named : (q : ℕ) → is_number (at_place port_named spaces q) port
      ≡ (is_number (at_place port_shared spaces q) port || is_number (at_place received_port spaces q) port)
  named q = either port (entry_in spaces (q / 2 ^ 32) (q % 2 ^ 32))

  pub next_of_both : (sharer receiver : Option ℕ) → IsNextAt port_shared spaces port from sharer
      → IsNextAt received_port spaces port from receiver → IsNextAt port_named spaces port from (lesser sharer receiver)
  next_of_both None None s r = λ q after fits. named q ∙ neither _ _ (s q after fits) (r q after fits)
  next_of_both None (Some second) s r = (
    r.0,
    r.1,
    named second ∙ second_is _ _ r.2,
    λ q after before. named q ∙ neither _ _ (s q after (omega (arith, before, r.1))) (r.3 q after before),
  )
  next_of_both (Some first) None s r = (
    s.0,
    s.1,
    named first ∙ first_is _ _ s.2,
    λ q after before. named q ∙ neither _ _ (s.3 q after before) (r q after (omega (arith, before, s.1))),
  )
  next_of_both (Some first) (Some second) s r =
      elim (nat_lt second first) as (λ (b : Bool). nat_lt second first ≡ b
      → IsNextAt port_named spaces port from (Some (cond b second first))) [
        | true ↦ λ (is : _).
            let less : second < first = ltb-true second first is in (
              r.0,
              r.1,
              named second ∙ second_is _ _ r.2,
              λ q after before. named q ∙ neither _ _ (s.3 q after (omega (arith, before, less))) (r.3 q after before),
            )
        | false ↦ λ (is : _).
            let less : first ≤ second = ltb-false second first is in (
              s.0,
              s.1,
              named first ∙ first_is _ _ s.2,
              λ q after before. named q ∙ neither _ _ (s.3 q after before) (r.3 q after (omega (arith, before, less))),
            )
      ] refl

  -- the lesser of the first place with a right and the first place with a request is the first mention
  pub first_mention : (holder requester first : ℕ) → IsNextAt port_named spaces port from (Some holder)
      → IsNextAt request_of spaces port from (Some requester) → first ≡ min holder requester
      → IsNextMention port spaces from (Some first)
  first_mention holder requester first h r is = (
    omega (arith, is, h.0, r.0),
    omega (arith, is, h.1, r.1),
    λ q after before. (h.3 q after (omega (arith, before, is)), r.3 q after (omega (arith, before, is))),
  )
