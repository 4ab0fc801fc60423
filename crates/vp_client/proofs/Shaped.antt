-- An answer that is found in a datagram is one that a site may give.
use Rattle.std.proofs.Common.{◌≡◌, ℕ, Bool, true, false, List, subst, Result, Ok, Err, if◌then◌else◌, ◌==◌}
use Rattle.std.specs.Prelude.{Option, Some, None}
use Rattle.vp_text.specs.Meaning.{Answers}
use Rattle.vp_model.specs.Types.{Answer, Call}
use Rattle.vp_laws.specs.Answering.{answers}
use Rattle.vp_runs.specs.Asking.{answer_in, answer_from, answer_of}
use Rattle.vp_wire.specs.declared.frame.Frame.{Frame}
use Rattle.vp_wire.specs.declared.frame.Body.{Body}
use Rattle.vp_wire.specs.declared.frame.Body.TheVariants as body
use Rattle.vp_wire.specs.Grammar.{IsBody, IsSpelling}
use Rattle.vp_wire.specs.Decoded.{read_frame}
use Rattle.vp_wire.proofs.Decoded.{bytes_are_read}
use Rattle.vp_wire.proofs.Later.{body_later}
use Rattle.vp_contents.specs.Versions.{version_of}
use Rattle.vp_contents.specs.declared.version.Version.TheVariants as versions
use Rattle.vp_laws.specs.Shapes.{IsAnswer}
use Rattle.vp_client.specs.Claims.{AnswersAreShaped}

-- what is found under a condition is found
found : (b : Bool) (here there : Option Answer) (a : Answer) → (if b then here else None) ≡ Some a → here ≡ Some a
found true here there a e = e
found false here there a e = absurd (let no : None ≡ Some a = e in cc)

in_body : (words : Call) (from to : ℕ) (b : Body) (a : Answer) → answer_in words b ≡ Some a → IsBody versions.Second from to b → IsAnswer a
in_body words from to (body.Reply said) a e h =
    let is : Some said ≡ Some a = found (answers words said) (Some said) None a e in
    let same : said ≡ a = cc in
    subst IsAnswer same h.2
in_body words from to (body.Message m) a e h = absurd (let no : None ≡ Some a = e in cc)
in_body words from to (body.Call c) a e h = absurd (let no : None ≡ Some a = e in cc)
in_body words from to body.Tick a e h = absurd (let no : None ≡ Some a = e in cc)
in_body words from to body.ProbeNow a e h = absurd (let no : None ≡ Some a = e in cc)
in_body words from to body.Stop a e h = absurd (let no : None ≡ Some a = e in cc)

in_read : (site : ℕ) (words : Call) (bytes : List ℕ) (read : Result Frame ℕ) (a : Answer) → Answers IsSpelling (λ (f : Frame). f) (λ (at : ℕ). Some at) bytes read → answer_from site words read ≡ Some a → IsAnswer a
in_read site words bytes (Ok f) a h e = in_body words f.from f.to f.body a (found (f.from == site) (answer_in words f.body) None a e) (body_later (version_of f.version) f.from f.to f.body h.allowed.2)
in_read site words bytes (Err at) a h e = absurd (let no : None ≡ Some a = e in cc)

pub answers_are_shaped : AnswersAreShaped
unfolding answer_of
answers_are_shaped port site words d a e =
    in_read site words d.bytes (read_frame d.bytes) a (bytes_are_read d.bytes) (found (d.port == port) (answer_from site words (read_frame d.bytes)) None a e)
