use Rattle.std.specs.Prelude.{◌≡◌, Bool, true, false, ◌==◌, ◌&&◌, List}
use Rattle.std.proofs.Common.{refl, sym, ap, ◌∙◌, subst}
use Rattle.std.specs.Bool.{Decides}
use Rattle.std.proofs.lemmas.Bool.Decides.{Decides-eqb}
use Rattle.std.proofs.lemmas.Slice.Eq.{slice_eq-Decides}
use Rattle.ipc_model.specs.declared.plain_reply.NamedType.{NamedType}
use Rattle.ipc_model.specs.declared.plain_reply.PlainReply.{PlainReply}
use Rattle.ipc_model.specs.declared.plain_reply.PlainReply.TheVariants as reply
use Rattle.ipc_model.proofs.plain_reply.PlainReply.is_same.Goals as goal

both : (a b : Bool) → (a && b) ≡ true → (a ≡ true) × (b ≡ true)
both true b is = (refl, is)
both false b is = absurd (cc is)

named_same : (a b : NamedType) → Decides (a.name == b.name && a.bits == b.bits) (a ≡ b)
named_same a b = (
  (λ same.
      let parts = both (a.name == b.name) (a.bits == b.bits) same in
      let name : a.name ≡ b.name = (Decides-eqb a.name b.name).0 parts.0 in
      let bits : a.bits ≡ b.bits = (Decides-eqb a.bits b.bits).0 parts.1 in
      λ i. record { name = name i; bits = bits i }),
  (λ is. subst (λ (other : NamedType). (a.name == other.name && a.bits == other.bits) ≡ true) is
      (subst (λ (t : Bool). (t && a.bits == a.bits) ≡ true) (sym ((Decides-eqb a.name a.name).1 refl))
      ((Decides-eqb a.bits a.bits).1 refl))),
)

listed : PlainReply → List NamedType → List NamedType
listed (reply.Names names) other = names
listed _ other = other

pub returns-in-Names-Names : goal.returns-in-Names-Names
unfolding listed
returns-in-Names-Names c =
    let here = c.as_slice.result.now in
    let there = c.as_slice-in-Names-Names.result.now in
    let same : Decides c.eq-in-Names-Names.result (here ≡ there) =
    slice_eq-Decides named_same here there c.eq-in-Names-Names.result c.eq-in-Names-Names.ensures in (
      (λ is. c.in-Names-Names.is-0 ∙ ap reply.Names
          (sym c.as_slice.ensures ∙ same.0 is ∙ c.as_slice-in-Names-Names.ensures) ∙ sym c.in-Names-Names.is-1),
      (λ is. same.1 (c.as_slice.ensures ∙ ap
          (λ (r : PlainReply). listed r here) (sym c.in-Names-Names.is-0 ∙ is ∙ c.in-Names-Names.is-1)
          ∙ sym c.as_slice-in-Names-Names.ensures)),
    )
