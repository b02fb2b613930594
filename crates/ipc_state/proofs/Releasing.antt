-- The releases of a message's rights, without those of dead ports.
use Rattle.std.specs.Prelude.{ℕ, Bool, ◌≡◌, List, [], ◌∷◌, ◌++◌, map, flat_map, option_map, refl}
use Rattle.std.proofs.Common.{ap, sym, ◌∙◌, append_assoc}
use Rattle.ipc_model.specs.declared.message.CarriedRight.{CarriedRight}
use Rattle.ipc_model.specs.declared.message.Message.{Message}
use Rattle.ipc_model.specs.effects.Effects.{Effect, release_of, release_of_reply, releases_of}
use Rattle.ports.specs.Passed.{seen_message, seen_right}

pub seen_each : {A B C : Type 0} (f : B → List C) (g : A → B) (xs : List A)
    → flat_map f (map g xs) ≡ flat_map (λ x. f (g x)) xs
seen_each f g [] = refl
seen_each f g (x ∷ xs) = ap (λ l. f (g x) ++ l) (seen_each f g xs)

-- a message's reply right is released, then its body rights
pub released_all : (lives : ℕ → Bool) (old mid new : List Effect) (message : Message)
    → mid ≡ old ++ release_of_reply (option_map (seen_right lives) message.reply)
    → new ≡ mid ++ flat_map (λ (r : CarriedRight). release_of (seen_right lives r)) message.rights
    → new ≡ old ++ releases_of (seen_message lives message)
released_all lives old mid new message first then =
    then ∙ ap (λ (l : List Effect). l ++ flat_map
    (λ (r : CarriedRight). release_of (seen_right lives r)) message.rights) first
    ∙ append_assoc old (release_of_reply (option_map (seen_right lives) message.reply))
    (flat_map (λ (r : CarriedRight). release_of (seen_right lives r)) message.rights)
    ∙ ap (λ (l : List Effect). old ++ (release_of_reply (option_map (seen_right lives) message.reply) ++ l))
    (sym (seen_each release_of (seen_right lives) message.rights))
