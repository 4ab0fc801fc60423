use Rattle.std.proofs.Common.{◌≡◌, ◌<◌, ◌+◌, sym, ◌∙◌, arith, length, take, false}
use Rattle.vp_base.specs.Reading.{starts_any}
use Rattle.vp_base.proofs.Among.{place_turn, place_starts, place_found, place_lost}
use Rattle.vp_procedure.specs.Procedures.{names_of}
use Rattle.vp_procedure.proofs.statement_reading.parse_place.Goals as goal
use Rattle.vp_procedure.proofs.statement_reading.parse_place.Goals.{then-loop-count-test+else-some_starts, else-loop-count-test}

pub loop-count-init : goal.loop-count-init
loop-count-init c = (omega arith, place_starts (names_of c.args.catalog.now) c.rest-bytes.result.now)

pub loop-count-preserved : goal.loop-count-preserved
loop-count-preserved c =
    (omega arith, sym (place_turn (names_of c.args.catalog.now) c.rest-bytes.result.now c.loop-count.count c.loop-count-test.true (sym c.if-some_starts.ensures)) ∙ c.loop-count.invariant.1)

pub returns-in-Some-clause-read : goal.returns-in-Some-clause-read
returns-in-Some-clause-read c =
    let bytes = c.rest-bytes.result.now in
    let n = c.loop-count.count in
    let stops : n < length bytes → starts_any (names_of c.args.catalog.now) (take (n + 1) bytes) ≡ false = elim c.loop-count-test.branch [
      | then-loop-count-test+else-some_starts w ↦ λ _. sym w.if-some_starts.ensures
      | else-loop-count-test w ↦ λ a. absurd (omega arith)
    ] in
    rw (c.advance.ensures, ← c.rest-bytes.ensures) (sym c.loop-count.invariant.1 ∙ place_found (names_of c.args.catalog.now) bytes n c.in-Some.place stops c.in-Some.ensures.place)

pub returns-in-None-clause-read : goal.returns-in-None-clause-read
returns-in-None-clause-read c =
    let bytes = c.rest-bytes.result.now in
    let n = c.loop-count.count in
    let stops : n < length bytes → starts_any (names_of c.args.catalog.now) (take (n + 1) bytes) ≡ false = elim c.loop-count-test.branch [
      | then-loop-count-test+else-some_starts w ↦ λ _. sym w.if-some_starts.ensures
      | else-loop-count-test w ↦ λ a. absurd (omega arith)
    ] in
    rw (← c.rest-bytes.ensures) (sym c.loop-count.invariant.1 ∙ place_lost (names_of c.args.catalog.now) bytes n stops c.in-None.ensures.place)
