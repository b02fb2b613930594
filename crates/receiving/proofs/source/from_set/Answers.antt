use Rattle.std.proofs.Common.{◌≡◌, find, None, Some, option_map, sym, ap, ◌∙◌}
use Rattle.ipc_model.specs.calls.PortCalls.{names_in}
use Rattle.receiving.specs.Shows.{arguments_of}
use Rattle.receiving.specs.SourceLaws.{find_there, gives_has, gives_preferred, member_pairs, none_preferred, set_empty, set_source}
use Rattle.receiving.specs.Sources.{gives, source_value}
use Rattle.receiving.specs.declared.asked.Preference.TheVariants as preference
use Rattle.receiving.proofs.source.from_set.Goals as goal

pub returns-in-Some-clause-found : goal.returns-in-Some-clause-found
returns-in-Some-clause-found c =
    let state = c.args.state.now.current in
    let names = names_in state c.args.space in
    let arguments = arguments_of c.args.asked in
    let members = c.as_slice-members.ensures.value ∙ c.in_ok-members.ensures in
    let found : find (gives state names arguments c.args.preference) (member_pairs state names c.args.asked.name)
    ≡ Some (c.in-Some.source.member, c.in-Some.source.port) =
    sym (ap (find (gives state names arguments c.args.preference)) members) ∙ sym c.in_ok-source.ensures
    ∙ ap (option_map source_value) c.in-Some.is in
    set_source state names arguments
    (gives state names arguments c.args.preference) c.in-Some.source.member c.in-Some.source.port c.requires.set found
    (gives_has state names arguments c.args.preference c.in-Some.source.member c.in-Some.source.port)

pub returns-in-Some-clause-preferred : goal.returns-in-Some-clause-preferred
returns-in-Some-clause-preferred c = λ _ _ _ _ _ _.
    let state = c.args.state.now.current in
    let names = names_in state c.args.space in
    let arguments = arguments_of c.args.asked in
    let members = c.as_slice-members.ensures.value ∙ c.in_ok-members.ensures in
    let found : find (gives state names arguments c.args.preference) (member_pairs state names c.args.asked.name)
    ≡ Some (c.in-Some.source.member, c.in-Some.source.port) =
    sym (ap (find (gives state names arguments c.args.preference)) members) ∙ sym c.in_ok-source.ensures
    ∙ ap (option_map source_value) c.in-Some.is in
    gives_preferred state names arguments c.args.preference c.in-Some.source.member c.in-Some.source.port
    (find_there (gives state names arguments c.args.preference) (member_pairs state names c.args.asked.name)
    (c.in-Some.source.member, c.in-Some.source.port) found).1

pub returns-in-Some-2-clause-found : goal.returns-in-Some-2-clause-found
returns-in-Some-2-clause-found c =
    let state = c.args.state.now.current in
    let names = names_in state c.args.space in
    let arguments = arguments_of c.args.asked in
    let members = c.as_slice-members.ensures.value ∙ c.in_ok-members.ensures in
    let found : find (gives state names arguments preference.Least) (member_pairs state names c.args.asked.name)
    ≡ Some (c.in-Some-2.source.member, c.in-Some-2.source.port) =
    sym (ap (find (gives state names arguments preference.Least)) members) ∙ sym c.in_ok-source-2.ensures
    ∙ ap (option_map source_value) c.in-Some-2.is in
    set_source state names arguments
    (gives state names arguments preference.Least) c.in-Some-2.source.member c.in-Some-2.source.port c.requires.set
    found (gives_has state names arguments preference.Least c.in-Some-2.source.member c.in-Some-2.source.port)

pub returns-in-Some-2-clause-preferred : goal.returns-in-Some-2-clause-preferred
returns-in-Some-2-clause-preferred c =
    let state = c.args.state.now.current in
    let names = names_in state c.args.space in
    let arguments = arguments_of c.args.asked in
    let members = c.as_slice-members.ensures.value ∙ c.in_ok-members.ensures in
    let none : find (gives state names arguments c.args.preference)
    (member_pairs state names c.args.asked.name) ≡ None =
    sym (ap (find (gives state names arguments c.args.preference)) members) ∙ sym c.in_ok-source.ensures
    ∙ ap (option_map source_value) c.in_default.is in
    none_preferred state names arguments c.args.preference c.in-Some-2.source.member c.in-Some-2.source.port
    c.requires.set none

pub returns-clause-refused : goal.returns-clause-refused
returns-clause-refused c =
    let state = c.args.state.now.current in
    let names = names_in state c.args.space in
    let arguments = arguments_of c.args.asked in
    let members = c.as_slice-members.ensures.value ∙ c.in_ok-members.ensures in
    let none : find (gives state names arguments preference.Least) (member_pairs state names c.args.asked.name) ≡ None =
    sym (ap (find (gives state names arguments preference.Least)) members) ∙ sym c.in_ok-source-2.ensures
    ∙ ap (option_map source_value) c.in-None.is in
    set_empty state names arguments c.requires.set none
