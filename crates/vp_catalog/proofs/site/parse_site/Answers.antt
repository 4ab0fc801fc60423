use Rattle.std.proofs.Common.{◌≡◌, ◌<◌, ◌+◌, sym, ◌∙◌, ◌-◌, arith, length, take, drop, false}
use Rattle.vp_base.specs.Reading.{starts_any}
use Rattle.vp_base.proofs.Among.{place_turn, place_starts, place_found, place_lost}
use Rattle.vp_catalog.specs.Sites.{site_texts}
use Rattle.vp_catalog.proofs.Sites.{site_place, no_place, site_found, site_lost}
use Rattle.vp_catalog.proofs.site.parse_site.Goals as goal
use Rattle.vp_catalog.proofs.site.parse_site.Goals.{then-loop-count-test+else-some_starts, else-loop-count-test}

pub loop-count-init : goal.loop-count-init
loop-count-init c = (omega arith, place_starts (site_texts c.args.sites.now c.args.above) c.rest-bytes.result.now)

pub loop-count-preserved : goal.loop-count-preserved
loop-count-preserved c = (omega arith, sym (place_turn (site_texts c.args.sites.now c.args.above) c.rest-bytes.result.now c.loop-count.count c.loop-count-test.true (sym c.if-some_starts.ensures)) ∙ c.loop-count.invariant.1)

pub returns-in-Some-clause-read : goal.returns-in-Some-clause-read
returns-in-Some-clause-read c =
    let texts = site_texts c.args.sites.now c.args.above in
    let bytes = c.rest-bytes.result.now in
    let n = c.loop-count.count in
    let stops : n < length bytes → starts_any texts (take (n + 1) bytes) ≡ false = elim c.loop-count-test.branch [
      | then-loop-count-test+else-some_starts w ↦ λ _. sym w.if-some_starts.ensures
      | else-loop-count-test w ↦ λ a. absurd (omega arith)
    ] in
    let p = site_place c.args.sites.now c.args.above (take n bytes) c.in-Some.site c.in-Some.ensures.site in
    rw (c.advance.ensures, ← c.rest-bytes.ensures) (site_found c.args.sites.now c.args.above bytes p.0 c.in-Some.site (drop n bytes) (sym c.loop-count.invariant.1 ∙ place_found texts bytes n p.0 stops p.1) p.2)

pub returns-in-None-clause-read : goal.returns-in-None-clause-read
returns-in-None-clause-read c =
    let texts = site_texts c.args.sites.now c.args.above in
    let bytes = c.rest-bytes.result.now in
    let n = c.loop-count.count in
    let stops : n < length bytes → starts_any texts (take (n + 1) bytes) ≡ false = elim c.loop-count-test.branch [
      | then-loop-count-test+else-some_starts w ↦ λ _. sym w.if-some_starts.ensures
      | else-loop-count-test w ↦ λ a. absurd (omega arith)
    ] in
    let none = no_place c.args.sites.now c.args.above (take n bytes) c.in-None.ensures.site in
    rw (← c.rest-bytes.ensures) (site_lost c.args.sites.now c.args.above bytes (length bytes - n) (sym c.loop-count.invariant.1 ∙ place_lost texts bytes n stops none))
