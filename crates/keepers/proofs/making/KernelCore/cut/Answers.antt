use Rattle.std.proofs.Common.{◌∙◌, ℕ, List, length, Option, sym, ap, subst}
use Rattle.std.specs.Prelude.{IfSome, option_map}
use Rattle.std.proofs.lemmas.List.{length-map}
use Rattle.history.specs.Entries.{records_of}
use Rattle.history.specs.Pasts.{PastValue}
use Rattle.history.specs.declared.entry.Entry.{Entry}
use Rattle.keepers.specs.Keeping.{KernelCoreValue, IsKernelCore}
use Rattle.keepers.proofs.Cores.{canonical_again, kept_entries}
use Rattle.keepers.proofs.Cutting.{core_cut, end_cut}
use Rattle.keepers.proofs.making.KernelCore.cut.Goals as goal
use Rattle.keepers.specs.Storing.{IsEnd}
use Rattle.store_half.specs.Values.{CutValue}
use Rattle.system.specs.Halves.{Cuts, KernelValue}

pub invariant_of-result : goal.invariant_of-result
invariant_of-result g c =
    let s = c.self.inside in
    let entries : List Entry = c.in_ok-past.past.entries in
    let there =
    ap (λ (v : KernelCoreValue). option_map (λ (p : PastValue). p.entries) v.past)
    (c.self.view_is ∙ c.again.ensures.same) ∙ c.in_ok-past.ensures.entries in
    let core =
    kept_entries (λ (l : List Entry). IsKernelCore g.L.Founding.base s.half l s.opened s.earlier s.taken s.older)
    s.past entries there c.self.invariant.2 in
    let cuts : Cuts s.half c.in-Ok-Some.cut c.cut.new.self =
    subst (λ (o : Option CutValue). IfSome o (λ cut. Cuts s.half cut c.cut.new.self)) c.in-Ok-Some.field-0-is
    c.in-Ok-Some.ensures.cut in (
      cuts.epoch ∙ sym (c.epoch.ensures ∙ ap (λ (k : KernelValue). k.epoch) cuts.rest),
      subst (λ (n : ℕ). IsEnd g.L.Founding.base (record { cut = c.in-Ok-Some.cut; entries = entries; earlier = n }))
          (length-map entries (λ (e : Entry). e.«record») ∙ sym c.len-earlier.ensures)
          (end_cut g.L.Founding.base s.half c.cut.new.self entries s.opened s.earlier s.taken s.older c.in-Ok-Some.cut
          core cuts),
    )

pub invariant_of-self-2 : goal.invariant_of-self-2
invariant_of-self-2 g c =
    let s = c.self.inside in
    let entries : List Entry = c.in_ok-past.past.entries in
    let there =
    ap (λ (v : KernelCoreValue). option_map (λ (p : PastValue). p.entries) v.past)
    (c.self.view_is ∙ c.again.ensures.same) ∙ c.in_ok-past.ensures.entries in
    let core =
    kept_entries (λ (l : List Entry). IsKernelCore g.L.Founding.base s.half l s.opened s.earlier s.taken s.older)
    s.past entries there c.self.invariant.2 in
    let cuts : Cuts s.half c.in-Ok-Some.cut c.cut.new.self =
    subst (λ (o : Option CutValue). IfSome o (λ cut. Cuts s.half cut c.cut.new.self)) c.in-Ok-Some.field-0-is
    c.in-Ok-Some.ensures.cut in (
      ap (λ (k : KernelValue). k.handed) cuts.rest ∙ c.self.invariant.0,
      c.self.invariant.1,
      canonical_again (λ (l : List Entry). IsKernelCore g.L.Founding.base s.half l s.opened s.earlier s.taken s.older)
          (λ (l : List Entry). IsKernelCore g.L.Founding.base c.cut.new.self l 0 c.len-earlier.result s.taken
          c.log_length-length.result) s.past entries there c.self.invariant.2
          (subst (λ (n : ℕ). IsKernelCore g.L.Founding.base c.cut.new.self entries 0 n s.taken
          c.log_length-length.result) (length-map entries (λ (e : Entry). e.«record») ∙ sym c.len-earlier.ensures)
          (subst (λ (n : ℕ). IsKernelCore g.L.Founding.base c.cut.new.self entries 0
          (length (records_of entries)) s.taken n) (sym c.log_length-length.ensures)
          (core_cut g.L.Founding.base s.half c.cut.new.self entries s.opened s.earlier s.taken s.older c.in-Ok-Some.cut
          core cuts))),
    )
