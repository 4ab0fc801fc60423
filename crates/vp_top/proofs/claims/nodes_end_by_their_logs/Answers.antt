use Rattle.vp_serving.specs.Serving.{outside}
use Rattle.std.proofs.Common.{◌≡◌, ℕ, List, sym, subst, inl, inr, ◌⊎◌}
use Rattle.std.specs.Prelude.{Some, Ok}
use Rattle.vp_model.specs.Words.{value_at}
use Rattle.vp_model.specs.Catalogue.{Catalogue}
use Rattle.vp_catalog.specs.Document.{Answered, IsOnly}
use Rattle.vp_outside.specs.Input.{SourceState}
use Rattle.vp_serving.specs.Serving.{Outside}
use Rattle.vp_top.specs.NodeEnds.{IsCalm, DecidedByLog}
use Rattle.vp_words.specs.Commands.{command_of}
use Rattle.vp_top.specs.Complete.{Fits, IsGiven}
use Rattle.vp_top.specs.Ends.{EndsAsNode, IsPrinted}
use Rattle.vp_top.proofs.Answering.{answer_is, no_gateway, node_bytes, printed, same_command}
use Rattle.vp_top.proofs.Completing.{at_port, same_catalogue}
use Rattle.vp_status.specs.declared.status.Status.{Status}
use Rattle.vp_status.specs.declared.status.Status.TheVariants as status
use Rattle.vp_words.specs.declared.words.Command.TheVariants as commands
use Rattle.vp_top.proofs.claims.nodes_end_by_their_logs.Goals as goal

module _ (words : List (List ℕ)) (site port turns : ℕ) (log bytes : List ℕ) (catalogue : Catalogue) (w : command_of words ≡ Some (commands.Node site log turns))
    (answered : Answered bytes (Ok catalogue)) (there : value_at site catalogue.sites ≡ Some port) (source source' : SourceState) (o : Outside)
    (given : IsGiven bytes source source' o) (calm : IsCalm o) where
  no_text : Fits bytes → (end : Status) → IsPrinted words source source' o.link o.link' o.sink o.sink' end → ⊥
  no_text fits end p = at_port bytes site o.link o.link' (λ port end text. ⊥) catalogue answered port there end p.text (answer_is words source source' o (commands.Node site log turns) w tt bytes given fits end p)

  memory_ends : (end : Status) → end ≡ status.NoMemory → DecidedByLog catalogue site log o end
  memory_ends end is = subst (DecidedByLog catalogue site log o) (sym is) tt

  text_ends : Fits bytes → (end : Status) → IsPrinted words source source' o.link o.link' o.sink o.sink' end ⊎ (end ≡ status.NoMemory) → DecidedByLog catalogue site log o end
  text_ends fits end (inl p) = absurd (no_text fits end p)
  text_ends fits end (inr memory) = memory_ends end memory

  node_ends : (end : Status) → EndsAsNode words source source' o end → DecidedByLog catalogue site log o end
  node_ends end n =
      let same : commands.Node n.site n.log n.turns ≡ commands.Node site log turns = same_command words (commands.Node site log turns) (commands.Node n.site n.log n.turns) w n.node.words_are in
      let all = node_bytes words source source' o (commands.Node site log turns) w tt bytes given end n in
      let only = subst (λ d. IsOnly d (Ok n.catalogue)) all n.node.placed.only in
      let catalogues = same_catalogue bytes catalogue n.catalogue answered only in
      let sites : n.site ≡ site = cc in
      let logs : n.log ≡ log = cc in
      subst (λ (k : Catalogue). DecidedByLog k site log o end) catalogues
      (subst (λ (s : ℕ). DecidedByLog n.catalogue s log o end) sites (subst (λ (l : List ℕ). DecidedByLog n.catalogue n.site l o end) logs (n.decided calm)))

pub returns : goal.returns
returns g c words site port turns log bytes catalogue w fits answered there source source' link link' sink sink' disk disk' end (inl text) given calm =
    let o = outside link link' sink sink' (g.D.Disk.state disk) (g.D.Disk.state disk') in
    text_ends words site port turns log bytes catalogue w answered there source source' o given calm fits end (printed words source source' o end text (λ reads. given.no_source_fault) given.no_sink_fault)
returns g c words site port turns log bytes catalogue w fits answered there source source' link link' sink sink' disk disk' end (inr (inl (inl node))) given calm =
    let o = outside link link' sink sink' (g.D.Disk.state disk) (g.D.Disk.state disk') in
    node_ends words site port turns log bytes catalogue w answered there source source' o given calm end node
returns g c words site port turns log bytes catalogue w fits answered there source source' link link' sink sink' disk disk' end (inr (inl (inr audit))) given calm =
    absurd (let bad : commands.Audit audit.logs ≡ commands.Node site log turns = same_command words (commands.Node site log turns) (commands.Audit audit.logs) w audit.audit.words_are in cc)
returns g c words site port turns log bytes catalogue w fits answered there source source' link link' sink sink' disk disk' end (inr (inr gateway)) given calm =
    let o = outside link link' sink sink' (g.D.Disk.state disk) (g.D.Disk.state disk') in
    absurd (no_gateway words source source' o (commands.Node site log turns) w (λ is. is) end gateway)
