-- A reply shows each choice that the machine made: old state, space, call and reply leave at most one new state.
use Rattle.std.specs.Prelude.{◌≡◌, ℕ, List, [], ◌∷◌, Option, None, Some, Result, Ok, Err, MatchOption, MatchResult, refl}
use Rattle.std.proofs.Common.{sym, ◌∙◌, ap, subst}
use Rattle.std.specs.FinMap as finmap
use Rattle.codes.specs.declared.kern_return.KernReturn.{KernReturn}
use Rattle.codes.specs.declared.kern_return.KernReturn.TheVariants.{Success}
use Rattle.ipc_model.specs.declared.plain_call.PlainCall.{PlainCall}
use Rattle.ipc_model.specs.declared.plain_call.PlainCall.TheVariants as call
use Rattle.ipc_model.specs.declared.plain_reply.PlainReply.{PlainReply}
use Rattle.ipc_model.specs.declared.plain_reply.PlainReply.TheVariants as reply
use Rattle.ipc_model.specs.declared.entry.Entry.{Entry}
use Rattle.ipc_model.specs.calls.Actions.{Action, Acts, ActsOn, Done, Requested, GivesBack, Inserted, Extracted, Created}
use Rattle.ipc_model.specs.calls.Actions as actions
use Rattle.ipc_model.specs.rights.CopyIn.{Taken}
use Rattle.ipc_model.specs.effects.Effects.{Effect, Settles, settled, next_effect}
use Rattle.ipc_model.specs.state.Lawful.{Lawful}
use Rattle.ipc_laws.specs.LawfulLaws.{LawfulAtRest, at_rest}
use Rattle.ipc_model.specs.calls.PortCalls.{tests_of}
use Rattle.ipc_model.specs.messages.Receiving.{without_message}
use Rattle.ipc_laws.specs.ReceiveLaws.{SameLeft, same_receive}
use Rattle.ipc_model.specs.messages.Sending.{Ready, ready_to_send, sent}
use Rattle.ipc_model.specs.calls.Tests.{first_failing}
use Rattle.ipc_model.specs.calls.PlainStep.{PlainStep, ActsIn, ActsFrom, number_of_call}
use Rattle.ipc_model.specs.rights.CopyOut.{names_after}
use Rattle.ipc_model.specs.state.Ipc.{Ipc, Names, with_names}

-- Effects settle in one state.
abbrev pub OneEnd : Type 0
OneEnd =
    (state : Ipc) (effects : List Effect) (one other : Ipc) → Settles state effects one
    → Settles state effects other → one ≡ other

pub one_end : OneEnd
one_end state [] one other settled settled = refl
one_end state (first ∷ rest) one other (next_effect here) (next_effect there) = one_end _ _ one other here there

-- what a call's own action leaves
pub record SameOutcome (one other : Ipc) (effects others : List Effect) : Type 0 where
  pub state : one ≡ other
  pub effects_are : effects ≡ others

pub same_action : (action : Action) (answer : PlainReply) (one other : Ipc) (effects others : List Effect)
    → Acts action answer one effects → Acts action answer other others → SameOutcome one other effects others
same_action action answer one other effects others here there =
    record { state = here.1 ∙ sym there.1; effects_are = here.2 ∙ sym there.2 }

pub same_action_on : (entry : Option Entry) (action : Entry → Action) (answer : PlainReply) (one other : Ipc)
    (effects others : List Effect)
    → ActsOn entry action answer one effects → ActsOn entry action answer other others
    → SameOutcome one other effects others
same_action_on None action answer one other effects others here there = absurd here
same_action_on (Some entry) action answer one other effects others here there =
    same_action (action entry) answer one other effects others here there

-- names that the answer shows
name_shown : PlainReply → ℕ
name_shown (reply.Allocate name) = name
name_shown (reply.PreviousTarget name) = name
name_shown (reply.Extracted name kind) = name
name_shown (reply.SpaceCreated space name) = name
name_shown _ = 0

space_shown : PlainReply → ℕ
space_shown (reply.SpaceCreated space name) = space
space_shown _ = 0

gives_back_one : (state : Ipc) (space : ℕ) (former : Option ℕ) (name : ℕ) (one other : Ipc)
    → GivesBack state space former name one → GivesBack state space former name other → one ≡ other
gives_back_one state space None name one other here there = here.1 ∙ sym there.1
gives_back_one state space (Some target) name one other here there = here.1 ∙ sym there.1

same_request : (old : Ipc) (space name variant sync : ℕ) (taken : actions.TakenTarget) (answer : PlainReply)
    (one other : Ipc) (effects others : List Effect)
    → Requested old space name variant sync taken answer one effects
    → Requested old space name variant sync taken answer other others → SameOutcome one other effects others
unfolding name_shown
same_request old space name variant sync taken answer one other effects others here there =
    let same : here.0 ≡ there.0 = ap name_shown (sym here.1 ∙ there.1) in
    record {
      state =
          gives_back_one _ space _ here.0 one other here.2
          (subst (λ given. GivesBack _ space _ given other) (sym same) there.2);
      effects_are = here.3 ∙ sym there.3;
    }

same_inserted : (taken : Option Taken) (space name : ℕ) (one other : Ipc) (effects others : List Effect)
    → Inserted taken space name one effects → Inserted taken space name other others
    → SameOutcome one other effects others
same_inserted None space name one other effects others here there = absurd here
same_inserted (Some taken) space name one other effects others here there =
    record { state = here.0 ∙ sym there.0; effects_are = here.1 ∙ sym there.1 }

same_extracted : (taken : Option Taken) (space : ℕ) (answer : PlainReply) (one other : Ipc) (effects others : List Effect)
    → Extracted taken space answer one effects → Extracted taken space answer other others
    → SameOutcome one other effects others
unfolding name_shown
same_extracted None space answer one other effects others here there = absurd here
same_extracted (Some taken) space answer one other effects others here there =
    let same : here.0 ≡ there.0 = ap name_shown (sym here.1 ∙ there.1) in
    let there_too : actions.ComesOut (Some taken) space here.0 other others =
    subst (λ name. actions.ComesOut (Some taken) space name other others) (sym same) there.2 in
    record { state = here.2.1 ∙ sym there_too.1; effects_are = here.2.2 ∙ sym there_too.2 }

same_created : (taken : Option Taken) (answer : PlainReply) (one other : Ipc) (effects others : List Effect)
    → Created taken answer one effects → Created taken answer other others → SameOutcome one other effects others
unfolding name_shown space_shown
same_created None answer one other effects others here there = absurd here
same_created (Some taken) answer one other effects others here there =
    let same_name : here.1 ≡ there.1 = ap name_shown (sym here.3 ∙ there.3) in
    let same_space : here.0 ≡ there.0 = ap space_shown (sym here.3 ∙ there.3) in
    let moved : other ≡ with_names taken.state here.0
    (names_after finmap.empty taken.right.kind taken.right.port here.1) =
    there.5 ∙ (λ i. with_names taken.state (sym same_space i)
    (names_after finmap.empty taken.right.kind taken.right.port (sym same_name i))) in
    record { state = here.5 ∙ sym moved; effects_are = here.6 ∙ sym there.6 }

-- The answer of a call on names and ports determines what it does.
pub same_done : (old : Ipc) (space : ℕ) (names : Names) (c : PlainCall) (answer : PlainReply) (one other : Ipc)
    (effects others : List Effect)
    → Done old space names c answer one effects → Done old space names c answer other others
    → SameOutcome one other effects others
unfolding Done name_shown
same_done old space names (call.Attach s) answer one other effects others here there =
    same_action _ answer one other effects others here there
same_done old space names call.Names answer one other effects others here there =
    same_action _ answer one other effects others here there
same_done old space names (call.Type name) answer one other effects others here there =
    same_action_on _ _ answer one other effects others here there
same_done old space names (call.Rename from to) answer one other effects others here there =
    same_action_on _ _ answer one other effects others here there
same_done old space names (call.AllocateName kind name) answer one other effects others here there =
    same_action _ answer one other effects others here there
same_done old space names (call.Allocate kind) answer one other effects others here there =
    let same : here.0 ≡ there.0 = ap name_shown (sym here.2 ∙ there.2) in
    record {
      state = here.3 ∙ ap (λ name. actions.allocated old space names kind name) same ∙ sym there.3;
      effects_are = here.4 ∙ sym there.4;
    }
same_done old space names (call.Destroy name) answer one other effects others here there =
    same_action_on _ _ answer one other effects others here there
same_done old space names (call.Deallocate name) answer one other effects others here there =
    same_action_on _ _ answer one other effects others here there
same_done old space names (call.GetRefs name kind) answer one other effects others here there =
    same_action_on _ _ answer one other effects others here there
same_done old space names (call.ModRefs name kind delta) answer one other effects others here there =
    same_action_on _ _ answer one other effects others here there
same_done old space names (call.SetQlimit name limit) answer one other effects others here there =
    same_action_on _ _ answer one other effects others here there
same_done old space names (call.SetMscount name count) answer one other effects others here there =
    same_action_on _ _ answer one other effects others here there
same_done old space names (call.SetSeqno name seqno) answer one other effects others here there =
    same_action_on _ _ answer one other effects others here there
same_done old space names (call.GetReceiveStatus name) answer one other effects others here there =
    same_action_on _ _ answer one other effects others here there
same_done old space names (call.GetSetStatus name) answer one other effects others here there =
    same_action _ answer one other effects others here there
same_done old space names (call.MoveMember member after) answer one other effects others here there =
    same_action_on _ _ answer one other effects others here there
same_done old space names (call.RequestNotification name variant sync notify_name disposition) answer one other effects
    others here there =
    same_request old space name variant sync _ answer one other effects others here there
same_done old space names (call.InsertRight name right_name disposition) answer one other effects others here there =
    same_inserted _ space name one other effects others here.1 there.1
same_done old space names (call.ExtractRight name disposition) answer one other effects others here there =
    same_extracted _ space answer one other effects others here there
same_done old space names (call.Send message) answer one other effects others here there = absurd here
same_done old space names (call.Receive limit large name waited) answer one other effects others here there =
    absurd here
same_done old space names (call.SpaceCreate name disposition) answer one other effects others here there =
    same_created _ answer one other effects others here there
same_done old space names call.SpaceDestroy answer one other effects others here there =
    same_action _ answer one other effects others here there

-- a call on names and ports, refused or done
abbrev pub Called : Option KernReturn → Ipc → ℕ → Names → PlainCall → PlainReply → Ipc → List Effect → Type 0
Called refusal old space names c answer new effects =
    MatchOption refusal (Done old space names c answer new effects)
    (λ code. (answer ≡ reply.Refused (number_of_call c) code) × (new ≡ old) × (effects ≡ []))

same_call : (refusal : Option KernReturn) (old : Ipc) (space : ℕ) (names : Names) (c : PlainCall) (answer : PlainReply)
    (one other : Ipc) (effects others : List Effect)
    → Called refusal old space names c answer one effects → Called refusal old space names c answer other others
    → SameOutcome one other effects others
same_call None old space names c answer one other effects others here there =
    same_done old space names c answer one other effects others here there
same_call (Some code) old space names c answer one other effects others here there =
    record { state = here.1 ∙ sym there.1; effects_are = here.2 ∙ sym there.2 }

-- a send's outcome is determined
abbrev pub SentAs : Result Ready KernReturn → Ipc → PlainReply → Ipc → List Effect → Type 0
SentAs result old answer new effects =
    MatchResult result (λ (ready : Ready). (answer ≡ without_message Success 0 0) × (new ≡ (sent ready).0)
    × (effects ≡ (sent ready).1))
    (λ code. (answer ≡ without_message code 0 0) × (new ≡ old) × (effects ≡ []))

same_send : (result : Result Ready KernReturn) (old : Ipc) (answer : PlainReply) (one other : Ipc)
    (effects others : List Effect)
    → SentAs result old answer one effects → SentAs result old answer other others
    → SameOutcome one other effects others
same_send (Ok ready) old answer one other effects others here there =
    record { state = here.1 ∙ sym there.1; effects_are = here.2 ∙ sym there.2 }
same_send (Err code) old answer one other effects others here there =
    record { state = here.1 ∙ sym there.1; effects_are = here.2 ∙ sym there.2 }

of_receive : (one other : Ipc) (effects others : List Effect) → SameLeft one other effects others
    → SameOutcome one other effects others
of_receive one other effects others same = record { state = same.state; effects_are = same.effects_are }

same_acts_in : (old : Ipc) (space : ℕ) (names : Names) (c : PlainCall) (answer : PlainReply) (one other : Ipc)
    (effects others : List Effect)
    → LawfulAtRest old → ActsIn old space names c answer one effects → ActsIn old space names c answer other others
    → SameOutcome one other effects others
same_acts_in old space names (call.Send message) answer one other effects others lawful here there =
    same_send (ready_to_send old space message) old answer one other effects others here there
same_acts_in old space names (call.Receive limit large name waited) answer one other effects others lawful here there =
    of_receive one other effects others
    (same_receive old space names (record { limit = limit; large = large; name = name; waited = waited }) answer one
    other effects others lawful here there)
same_acts_in old space names c answer one other effects others lawful here there =
    same_call (first_failing (tests_of old space names c)) old space names c answer one other effects others here there

same_acts_from : (old : Ipc) (space : ℕ) (names : Option Names) (c : PlainCall) (answer : PlainReply) (one other : Ipc)
    (effects others : List Effect)
    → LawfulAtRest old → ActsFrom old space names c answer one effects → ActsFrom old space names c answer other others
    → SameOutcome one other effects others
same_acts_from old space None c answer one other effects others lawful here there =
    record { state = here.1 ∙ sym there.1; effects_are = here.2 ∙ sym there.2 }
same_acts_from old space (Some names) c answer one other effects others lawful here there =
    same_acts_in old space names c answer one other effects others lawful here there

-- From a lawful state, a plain call with a given answer leaves one state.
abbrev pub OneNewIpc : Type 0
OneNewIpc =
    (old : Ipc) (space : ℕ) (c : PlainCall) (answer : PlainReply) (one other : Ipc) → Lawful old → PlainStep old space c answer one
    → PlainStep old space c answer other → one ≡ other

pub one_new_ipc : OneNewIpc
unfolding PlainStep
one_new_ipc old space c answer one other lawful here there =
    let same =
    same_acts_from old space (finmap.get old.spaces space) c answer here.0 there.0 here.1 there.1
    (at_rest old lawful) here.2 there.2 in
    one_end here.0 here.1 one other here.3
    (subst (λ (s : Ipc). Settles s here.1 other) (sym same.state)
    (subst (λ (l : List Effect). Settles there.0 l other) (sym same.effects_are) there.3))
