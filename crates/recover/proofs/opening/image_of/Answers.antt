use Rattle.std.proofs.Common.{◌≡◌, ◌<◌, ◌^◌, [], length, sym, ap, subst, ◌∙◌}
use Rattle.std.proofs.lemmas.List.{append-nil}
use Rattle.checkpoint.specs.Images.{ImageValue, open_image, unwritten}
use Rattle.codes.specs.StoreVersion.{current}
use Rattle.image.specs.Rows.{snapshot_encoding}
use Rattle.ipc_model.specs.encodings.Images.{image_encoding}
use Rattle.ipc_model.specs.state.State.{State}
use Rattle.recover.proofs.opening.image_of.Goals as goal

pub returns-clause-holds : goal.returns-clause-holds
returns-clause-holds c =
    let e = c.args.epoch in
    let state : State = c.args.kernel.now in
    let is : c.in_ok-image.image ≡ unwritten e (image_encoding state) =
    c.in_ok-image.ensures ∙ ap (unwritten e)
    (ap snapshot_encoding c.in_ok-snapshot.ensures ∙ c.image_is_of_state.ensures current state) in
    record {
      version = current;
      rest = [];
      encoding = sym (append-nil (open_image e (image_encoding state)));
      fits = subst (λ (i : ImageValue). length i.encoding < 2 ^ 64) is c.size.ensures.fits;
      lawful = c.show_image.ensures.lawful;
      acyclic = c.show_image.ensures.acyclic;
      short = c.show_image.ensures.short;
      limits = λ serial port at. tt;
      kept = tt;
    }
