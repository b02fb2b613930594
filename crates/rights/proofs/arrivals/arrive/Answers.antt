use Rattle.std.proofs.Common.{◌∙◌, refl}
use Rattle.std.proofs.lemmas.List.{nil_from_length}
use Rattle.ipc_model.specs.calls.PortCalls.{names_in}
use Rattle.ipc_model.specs.rights.CopyOut.{names_after}
use Rattle.rights.proofs.OnTheWay.{way_first, way_more, way_room, way_last, way_wanted, names_got, there_too, got_first, got_later}
use Rattle.rights.proofs.arrivals.arrive.Goals as goal

pub loop-right-init : goal.loop-right-init
loop-right-init c = (
  way_first (names_in c.args.state.now.current c.args.space) c.args.rights.now c.args.wanted.now c.args.given.now.items
      c.requires.none c.requires.room,
  got_first c.args.state.now.current c.args.space c.requires.there,
  c.requires.there,
  refl,
)

pub arrive_one-requires-clause-room : goal.arrive_one-requires-clause-room
arrive_one-requires-clause-room c =
    way_room (names_in c.args.state.now.current c.args.space)
    (names_in c.loop-right.state.current c.args.space) c.args.rights.now c.loop-right.rest.now c.in-Some.beyond.now
    c.args.wanted.now c.loop-right.left.now c.loop-right.given.items c.in-Some.right.now
    c.loop-right.invariant.0 c.in-Some.ensures.cases.0

pub loop-right-preserved : goal.loop-right-preserved
loop-right-preserved c =
    let start = c.args.state.now.current in
    let now = c.loop-right.state.current in
    let space = c.args.space in
    let right = c.in-Some.right.now in
    let name = c.in_ok-name.name in
    let next = names_after (names_in now space) right.kind right.port name in
    let is = c.in_ok-name.ensures.ok in (
      way_more (names_in start space) (names_in now space)
          (names_in c.arrive_one.new.state.current space) c.args.rights.now c.loop-right.rest.now c.in-Some.beyond.now
          c.args.wanted.now c.loop-right.left.now c.front-shown.result.1.now c.loop-right.given.items
          c.push.new.self.items right name c.front-shown.result.0
          c.loop-right.invariant.0 c.in-Some.ensures.cases.0 c.in_ok-name.ensures.may
          (names_got now c.arrive_one.new.state.current space next is) c.in_ok-push.ensures.items
          c.front-shown.ensures c.in_ok-name.ensures.wanted,
      got_later start now c.arrive_one.new.state.current space next c.loop-right.invariant.1 is,
      there_too now c.arrive_one.new.state.current space next is,
      c.in_ok-name.ensures.before ∙ c.loop-right.invariant.3,
    )

pub returns-clause-arrives : goal.returns-clause-arrives
returns-clause-arrives c =
    way_last (names_in c.args.state.now.current c.args.space)
    (names_in c.loop-right.state.current c.args.space) c.args.rights.now c.loop-right.rest.now c.args.wanted.now
    c.loop-right.left.now c.loop-right.given.items c.loop-right.invariant.0
    (nil_from_length c.loop-right.rest.now c.in_default.ensures.cases)

pub returns-clause-wanted : goal.returns-clause-wanted
returns-clause-wanted c =
    way_wanted (names_in c.args.state.now.current c.args.space)
    (names_in c.loop-right.state.current c.args.space) c.args.rights.now c.loop-right.rest.now c.args.wanted.now
    c.loop-right.left.now c.loop-right.given.items c.loop-right.invariant.0
    (nil_from_length c.loop-right.rest.now c.in_default.ensures.cases)
