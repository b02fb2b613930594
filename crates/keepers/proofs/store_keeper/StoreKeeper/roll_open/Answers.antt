use Rattle.std.proofs.Common.{◌≡◌, ◌∙◌, sym, subst}
use Rattle.keepers.proofs.store_keeper.StoreKeeper.roll_open.Goals as goal

pub open_next-requires : goal.open_next-requires
open_next-requires g c = subst (λ s. s.stored ≡ s.earlier) c.self.view_is (sym c.count.ensures ∙ c.if-count-self.false)
