-- Rows that are printed one after another.
use Rattle.std.proofs.Common.{◌≡◌, ℕ, List, [], ◌∷◌, length, refl, arith}
use Rattle.ipc_model.specs.declared.plain_reply.NamedType.{NamedType}
use Rattle.script.specs.printing.Replies.{names_words, members_words}

-- no names have no words
pub names_gone : (names : List NamedType) → length names ≡ 0 → names_words names ≡ []
unfolding names_words
names_gone [] e = refl
names_gone (x ∷ names) e = absurd (omega arith)

pub members_gone : (members : List ℕ) → length members ≡ 0 → members_words members ≡ []
unfolding members_words
members_gone [] e = refl
members_gone (x ∷ members) e = absurd (omega arith)
