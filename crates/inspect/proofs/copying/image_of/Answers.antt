use Rattle.std.proofs.Common.{◌≡◌, ◌<◌, ◌^◌, [], length, sym, ap, subst, ◌∙◌}
use Rattle.std.proofs.lemmas.List.{append-nil}
use Rattle.codes.specs.StoreVersion.{current}
use Rattle.checkpoint.specs.Images.{ImageValue, open_image, unwritten}
use Rattle.image.specs.Rows.{snapshot_encoding}
use Rattle.ipc_model.specs.state.State.{State}
use Rattle.ipc_model.specs.encodings.Images.{image_encoding}
use Rattle.inspect.proofs.copying.image_of.Goals as goal

pub returns-clause-image : goal.returns-clause-image
returns-clause-image c =
    let state : State = c.in-Ok.kernel in
    let is : c.in_ok-image.image ≡ unwritten 0 (image_encoding state) =
    c.in_ok-image.ensures ∙ ap (unwritten 0)
    (ap snapshot_encoding c.in-Ok.ensures.same ∙ c.image_is_of_state.ensures current state) in
    record {
      state = state;
      same = c.in-Ok.ensures.same;
      is = is;
      holds = record {
        version = current;
        rest = [];
        encoding = sym (append-nil (open_image 0 (image_encoding state)));
        fits = subst (λ (i : ImageValue). length i.encoding < 2 ^ 64) is c.size.ensures.fits;
        lawful = c.show_image.ensures.lawful;
        acyclic = c.show_image.ensures.acyclic;
        short = c.show_image.ensures.short;
        limits = λ serial port at. tt;
        kept = tt;
      };
    }
