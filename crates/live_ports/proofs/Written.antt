-- A write through a key of the slab changes only that key's value.
use Rattle.std.proofs.Common.{◌≡◌, ℕ, None, Some, option_map, refl, sym, ◌∙◌, ap, subst}
use Rattle.std.specs.Prelude.{IsSome}
use Rattle.slab.specs.Slab as slab
use Rattle.slab.specs.Slab.{Slab, with_value}
use Rattle.slab.proofs.SlabLemmas.{Updates-with_value}
use Rattle.live_ports.specs.PortSlot.{PortSlot}
use Rattle.live_ports.specs.Slabbed.{IsChangedAt}

pub written : (f : PortSlot → PortSlot) (old : Slab PortSlot) (key : ℕ) (was now : PortSlot)
    → Some was ≡ slab.get old key → now ≡ f was → IsChangedAt f old (with_value old key now) key
written f old key was now there is =
    let update = Updates-with_value old key now (subst IsSome there refl) in
    record { changed = update.changed ∙ (ap Some is ∙ ap (option_map f) there); others = update.others }

pub not_there : (f : PortSlot → PortSlot) (old : Slab PortSlot) (key : ℕ) → None ≡ slab.get old key
    → IsChangedAt f old old key
not_there f old key none = record { changed = sym none ∙ ap (option_map f) none; others = λ other apart. refl }
