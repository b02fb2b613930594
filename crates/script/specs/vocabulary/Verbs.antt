-- The first words of lines: the names of the calls.
use Rattle.std.specs.Prelude.{ℕ, List, [], ◌∷◌, codes}
use Rattle.script.specs.declared.vocabulary.verb.Verb.{Verb}
use Rattle.script.specs.declared.vocabulary.verb.Verb.TheVariants as verb

abbrev pub verb_word : Verb → List ℕ
verb_word verb.Attach = codes "attach"
verb_word verb.Names = codes "names"
verb_word verb.Type = codes "type"
verb_word verb.Rename = codes "rename"
verb_word verb.AllocateName = codes "allocate_name"
verb_word verb.Allocate = codes "allocate"
verb_word verb.Destroy = codes "destroy"
verb_word verb.Deallocate = codes "deallocate"
verb_word verb.GetRefs = codes "get_refs"
verb_word verb.ModRefs = codes "mod_refs"
verb_word verb.SetQlimit = codes "set_qlimit"
verb_word verb.SetMscount = codes "set_mscount"
verb_word verb.SetSeqno = codes "set_seqno"
verb_word verb.GetReceiveStatus = codes "get_receive_status"
verb_word verb.GetSetStatus = codes "get_set_status"
verb_word verb.MoveMember = codes "move_member"
verb_word verb.RequestNotification = codes "request_notification"
verb_word verb.InsertRight = codes "insert_right"
verb_word verb.ExtractRight = codes "extract_right"
verb_word verb.Send = codes "send"
verb_word verb.Receive = codes "receive"
verb_word verb.SpaceCreate = codes "space_create"
verb_word verb.SpaceDestroy = codes "space_destroy"

abbrev pub all_verbs : List Verb
all_verbs =
    verb.Attach ∷ verb.Names ∷ verb.Type ∷ verb.Rename ∷ verb.AllocateName ∷ verb.Allocate ∷ verb.Destroy ∷
    verb.Deallocate
    ∷ verb.GetRefs ∷ verb.ModRefs ∷ verb.SetQlimit ∷ verb.SetMscount ∷ verb.SetSeqno ∷ verb.GetReceiveStatus ∷
    verb.GetSetStatus
    ∷ verb.MoveMember ∷ verb.RequestNotification ∷ verb.InsertRight ∷ verb.ExtractRight ∷ verb.Send ∷ verb.Receive
    ∷ verb.SpaceCreate ∷ verb.SpaceDestroy ∷ []
