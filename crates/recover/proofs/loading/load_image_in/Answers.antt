use Rattle.std.proofs.Common.{ℕ, Err, List, inl, inr, ap, sym, subst, ◌∙◌}
use Rattle.std.proofs.lemmas.Result.{err_from_is_err_and}
use Rattle.codes.specs.declared.store_version.StoreVersion.{StoreVersion}
use Rattle.disk.specs.Slots.{slot_of}
use Rattle.ipc_model.specs.store.Recovery.{IsImageIn}
use Rattle.ipc_model.specs.encodings.Images.{image_encoding_of}
use Rattle.recover.proofs.Faults.{counts_ok, counts_other, counts_passed}
use Rattle.recover.proofs.Texts.{image_after, image_version, encoding_is_image, encoding_of_image}
use Rattle.recover.proofs.loading.load_image_in.Goals as goal

pub returns-in_err-encoding-clause-damaged : goal.returns-in_err-encoding-clause-damaged
returns-in_err-encoding-clause-damaged g c = λ honest reported epoch state image.
    let p = err_from_is_err_and c.from_residual.result c.from_residual.ensures.1 in
    c.in_err-encoding.ensures.damaged honest (cc (p.1, p.2, reported)) (image_encoding_of image.version state)
    (image_after epoch (slot_of (g.D.Disk.view c.args.disk.now).seen c.args.slot) state image)

pub returns-in_err-kernel-clause-damaged : goal.returns-in_err-kernel-clause-damaged
returns-in_err-kernel-clause-damaged g c = λ honest reported epoch state image.
    let slot : List ℕ = slot_of (g.D.Disk.view c.args.disk.now).seen c.args.slot in
    let p = err_from_is_err_and c.from_residual-in_err-kernel.result c.from_residual-in_err-kernel.ensures.1 in
    c.in_err-kernel.ensures.damaged (cc (p.1, p.2, reported)) state
    (subst (λ (v : StoreVersion). IsImageIn v c.deref.result.now state)
    (image_version epoch slot state c.args.version image (c.requires.says honest))
    (subst (λ (l : List ℕ). IsImageIn image.version l state) (sym c.deref.ensures.value)
    (encoding_of_image epoch slot c.in_ok-encoding.encoding.items state (c.in_ok-encoding.ensures.encoding honest)
    image)))

pub returns-clause-image : goal.returns-clause-image
returns-clause-image g c = λ honest number epoch is.
    encoding_is_image c.args.version number epoch
    (slot_of (g.D.Disk.view c.args.disk.now).seen c.args.slot) c.in_ok-encoding.encoding.items c.in_ok-kernel.kernel
    (c.requires.says honest) is (c.in_ok-encoding.ensures.encoding honest)
    (subst (λ (l : List ℕ). IsImageIn c.args.version l c.in_ok-kernel.kernel) c.deref.ensures.value
    c.in_ok-kernel.ensures.image)

pub returns-in_err-encoding-clause-reads_only : goal.returns-in_err-encoding-clause-reads_only
returns-in_err-encoding-clause-reads_only g c = λ honest. c.read_encoding.ensures.reads_only honest

pub returns-in_err-encoding-clause-failures : goal.returns-in_err-encoding-clause-failures
returns-in_err-encoding-clause-failures g c =
    let p = err_from_is_err_and c.from_residual.result c.from_residual.ensures.1 in
    counts_passed _ _ _ c.from_residual.result (p.1 ∙ ap Err p.2) c.in_err-encoding.ensures.failures

pub returns-in_err-kernel-clause-reads_only : goal.returns-in_err-kernel-clause-reads_only
returns-in_err-kernel-clause-reads_only g c = λ honest. c.read_encoding.ensures.reads_only honest

pub returns-in_err-kernel-clause-failures : goal.returns-in_err-kernel-clause-failures
returns-in_err-kernel-clause-failures g c =
    let p = err_from_is_err_and c.from_residual-in_err-kernel.result c.from_residual-in_err-kernel.ensures.1 in
    counts_other _ _ c.from_residual-in_err-kernel.result _ (p.1 ∙ ap Err p.2)
    (λ reported. elim c.in_err-kernel.ensures.faults [
      | inl damaged ↦ cc (damaged, reported)
      | inr memory ↦ cc (memory, reported)
    ])
    c.in_ok-encoding.ensures.failures.quiet

pub returns-clause-reads_only : goal.returns-clause-reads_only
returns-clause-reads_only g c = λ honest. c.read_encoding.ensures.reads_only honest

pub returns-clause-failures : goal.returns-clause-failures
returns-clause-failures g c = counts_ok _ _ _ c.in_ok-encoding.ensures.failures.quiet
