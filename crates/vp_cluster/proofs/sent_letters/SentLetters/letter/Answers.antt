use Rattle.std.proofs.Common.{rules, ◌≡◌, ◌≤◌, ap, sym, ◌-◌, ◌<◌, ◌+◌, suc, false, length, get_or, take, drop, arith}
use Rattle.std.specs.Prelude.{◌==◌}
use Rattle.vp_cluster.specs.Letters.{start_in}
use Rattle.vp_cluster.proofs.Filed.{letter_found, none_found}
use Rattle.vp_cluster.proofs.sent_letters.SentLetters.letter.Goals as goal

pub returns-in_err-filed : goal.returns-in_err-filed
returns-in_err-filed c =
    let some : (c.args.k == 0) ≡ false = search rules in
    let (_, _, _, past, _) = c.in_err-filed.ensures.lookup in
    let following : length c.self.inside.filed.items ≤ c.args.k - 1 = rw (← c.deref.ensures.value) past in
    rw (c.from_residual.ensures, ← c.self.view_is) (sym (none_found c.self.inside.bytes.items c.self.inside.filed.items c.args.k some following))

pub returns : goal.returns
returns c =
    let bytes = c.self.inside.bytes.items in
    let letters = c.self.inside.filed.items in
    let filed = c.in_ok-filed.filed.now in
    let start = c.span-start.result.0 in
    let end = c.span-start.result.1 in
    let (_, read, _, (within, _), _) = c.in_ok-filed.ensures.lookup in
    let some : (c.args.k == 0) ≡ false = search rules in
    let lt : c.args.k - 1 < length letters = rw (← c.deref.ensures.value) within in
    let at : filed ≡ get_or letters (c.args.k - 1) filed = rw (← c.deref.ensures.value) read in
    let long : c.len.result ≡ length bytes = c.len.ensures.value in
    let next : c.args.k - 1 + 1 ≡ suc (c.args.k - 1) = omega arith in
    let starts : start ≡ start_in (length bytes) (drop (c.args.k - 1) letters) = rw (← long, ← c.deref-2.ensures.value) c.span-start.ensures.start in
    let ends : end ≡ start_in (length bytes) (drop (suc (c.args.k - 1)) letters) = rw (← long, ← c.deref-2.ensures.value, ← next) c.span-start.ensures.end in
    let its : take (end - start) (drop start c.deref-3.result.now) ≡ take (end - start) (drop start bytes) = ap (λ bytes. take (end - start) (drop start bytes)) c.deref-3.ensures in
    rw (← c.self.view_is) (letter_found bytes letters c.args.k start end filed (take (end - start) (drop start c.deref-3.result.now)) c.self.invariant some lt at starts ends its)
