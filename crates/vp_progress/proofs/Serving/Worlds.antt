-- The worlds in which a transaction goes on among the sites of one view, and how one step at its site or at another one carries it on.
use Rattle.std.proofs.Common.{◌≡◌, ◌≢◌, ◌⊎◌, ◌∙◌, ap, sym, subst, ℕ, ◌≤◌, false, List, [], ◌++◌, length, refl, arith, ⊎_elim, inl, inr, append-nil}
use Rattle.std.specs.Prelude.{Some, None}
use Rattle.std.specs.List.{list_any}
use Rattle.vp_model.specs.Types.{TxnId, View, Commit, Sent, Call, Message, Lock, Live}
use Rattle.vp_model.specs.Types.input
use Rattle.vp_model.specs.Words.{value_at}
use Rattle.vp_model.specs.Catalogue.{Catalogue, holders}
use Rattle.vp_model.specs.Site.{SiteState, Lent, Stepped, begin_step, put_back}
use Rattle.vp_model.specs.Refresh.{refreshing_of}
use Rattle.vp_model.specs.Step.{step}
use Rattle.vp_model.specs.World.{WorldState, site_of, same_pair}
use Rattle.vp_laws.proofs.Lists.Members.{Has, has_one, has_test}
use Rattle.vp_laws.proofs.Lists.Views.{same_site}
use Rattle.vp_laws.proofs.Lists.Numbers.{eq_self}
use Rattle.vp_laws.proofs.Moves.LocalViews.{letter}
use Rattle.vp_laws.proofs.Worlds.Scenes.{scene_of}
use Rattle.vp_laws.proofs.Journal.Changed.{HasChanged}
use Rattle.vp_laws.proofs.Invariant.Known.{Known}
use Rattle.vp_progress.specs.Going.{is_regroup}
use Rattle.vp_progress.proofs.Calm.{serves_since}
use Rattle.vp_progress.proofs.Can.{Can, can_now}
use Rattle.vp_progress.proofs.Acts.{Did, Since, grows_since, stays_since, sends_since, by_call, by_delivery}
use Rattle.vp_progress.proofs.Started.{AreJoined, Past}
use Rattle.vp_progress.proofs.Based.{other_as}
use Rattle.vp_progress.proofs.Serving.Parts.{Takes}
use Rattle.vp_progress.proofs.Serving.Sites.{Rest, IsResting, Lends, Leads, LeadsOn, leads_on, Gives}

-- the transaction has a part at the site, or is in doubt there
abbrev pub TakesAt : TxnId → ℕ → WorldState → Type 0
TakesAt txn k w = (x : SiteState) × (site_of w k ≡ Some x) × Takes txn x

-- no pair of these sites is cut, and at least so many messages are sent
pub record Stand (told : ℕ) (ns : List ℕ) (w : WorldState) : Type 0 where
  pub joined : AreJoined ns w
  pub grown : told ≤ length w.sent

module _ (catalogue : Catalogue) (ns : List ℕ) (v : View) (q : ℕ) (rest : ℕ → Rest) (among : (k : ℕ) → Has v.members k → Has ns k) where
  -- a member holds the record, no bar is on it, and nothing of it rests at a site
  pub record IsUnused (rec : ℕ) : Type 0 where
    pub holder : (k : ℕ) × Has (holders catalogue rec) k × Has v.members k
    pub unbarred : (k : ℕ) → Has ns k → value_at rec (rest k).bars ≡ None
    pub unlocked : (k : ℕ) (l : Lock) → Has ns k → Has (rest k).locks l → l.rec ≢ rec
    pub quiet : (k : ℕ) → Has ns k → refreshing_of rec (rest k).refresh ≡ None

  -- another site: a part of the transaction has come there, or is missing; without a part it rests
  pub record Other (t : Live) (missing : List ℕ) (k : ℕ) (w : WorldState) : Type 0 where
    pub at : SiteState
    pub up : site_of w k ≡ Some at
    pub lends : Lends v (rest k) t.txn at
    pub part : Has t.parts k → Has missing k ⊎ Takes t.txn at
    pub rests : (Has t.parts k → ⊥) → IsResting v (rest k) at

  pub record Serving (past : Past) (t : Live) (missing : List ℕ) (w : WorldState) : Type 0 where
    pub known : Known catalogue (scene_of w)
    pub stand : Stand past.told ns w
    pub same : w.journal ≡ past.entries
    pub at : SiteState
    pub up : site_of w q ≡ Some at
    pub leads : Leads v (rest q) t at
    -- it changes what is free
    pub free : (rec : ℕ) → HasChanged t rec → IsUnused rec
    pub others : (k : ℕ) → Has ns k → k ≢ q → Other t missing k w

  -- ---- events

  module _ (told : ℕ) (Q : WorldState → Type 0) (w : WorldState) (known : Known catalogue (scene_of w)) where
    pub calls : (x : SiteState) → site_of w q ≡ Some x → (words : Call) → is_regroup words ≡ false → ((new : WorldState) → Known catalogue (scene_of new) → Did w new q x (step catalogue x (input.Call 0 words)) → Can catalogue (serves_since told q ns) new Q) → Can catalogue (serves_since told q ns) w Q
    calls x up words e f = by_call catalogue (serves_since told q ns) Q w q x known up words (rw (eq_self q, e) refl) f

    pub comes : (k : ℕ) (x : SiteState) → Has ns k → site_of w k ≡ Some x → (from : ℕ) (words : Message) → Since told w (letter from k words) → Has ns from → Stand told ns w → ((new : WorldState) → Known catalogue (scene_of new) → Did w new k x (step catalogue x (input.Message from words)) → Can catalogue (serves_since told q ns) new Q) → Can catalogue (serves_since told q ns) w Q
    comes k x here up from words sent there stand f = by_delivery catalogue (serves_since told q ns) Q w k x known up told from words sent (stand.joined from k there here) (λ n l e. rw (l, e, has_test ns from there, has_test ns k here) refl) f

  pub still_stand : (told : ℕ) (w new : WorldState) (s : ℕ) (x : SiteState) (o : Stepped) → Stand told ns w → Did w new s x o → Stand told ns new
  still_stand told w new s x o stand d = record { joined = λ a b p r. ap (list_any (same_pair a b)) d.cuts ∙ stand.joined a b p r; grown = grows_since told stand.grown d }

  pub same_journal : (w new : WorldState) (s : ℕ) (x : SiteState) (o : Stepped) (journal more : List Commit) → w.journal ≡ journal → Did w new s x o → o.effects.commits ≡ more → new.journal ≡ journal ++ more
  same_journal w new s x o journal more same d e = d.acted.journal ∙ ap (λ (cs : List Commit). cs ++ o.effects.commits) same ∙ ap (λ (cs : List Commit). journal ++ cs) e

  module _ (past : Past) where
    abbrev pub Goes : Live → List ℕ → WorldState → Type 0
    Goes t missing w = Serving past t missing w

    -- it is of the view, and its parts are at other sites of the view
    pub led_in : (t : Live) (missing : List ℕ) (w : WorldState) → Goes t missing w → (t.view ≡ v.id) × ((k : ℕ) → Has t.parts k → Has ns k × (k ≢ q))
    led_in t missing w f =
        let is = (f.known.led.site q f.at f.up).live t (subst (λ (ts : List Live). Has ts t) (sym f.leads.live) (has_one t)) in
        let same : is.0 ≡ v = (let z = sym is.1 ∙ f.leads.held in grind (arith, z)) in
        let id = (f.known.views.site q f.at f.up).id in
        (sym is.2 ∙ ap (λ (v : View). v.id) same, (λ k part. let m = is.3 k part in (among k (subst (λ (v : View). Has v.members k) same m.0), (λ here. m.1 (here ∙ sym id)))))

    -- a step at the site of the transaction
    pub own_moves : (t now : Live) (missing left : List ℕ) (w new : WorldState) (f : Goes t missing w) (l : Lent) → Known catalogue (scene_of new) → Did w new q f.at (put_back (begin_step f.at) l) → LeadsOn (rest q) now l → now.txn ≡ t.txn → ((rec : ℕ) → HasChanged now rec → IsUnused rec) → ((k : ℕ) → Has t.parts k → Has now.parts k) → ((k : ℕ) → Has now.parts k → Has left k ⊎ TakesAt t.txn k w) → Goes now left new
    own_moves t now missing left w new f l known d g named free grows part = record {
      known = known;
      stand = still_stand past.told w new q f.at _ f.stand d;
      same = same_journal w new q f.at _ past.entries [] f.same d g.commits ∙ append-nil past.entries;
      at = (put_back (begin_step f.at) l).site;
      up = d.acted.now;
      leads = leads_on v (rest q) t now f.at l f.leads g;
      free = free;
      others = λ k here n.
          let o = f.others k here n in
          record {
            at = o.at;
            up = other_as d k n ∙ o.up;
            lends = subst (λ (u : TxnId). Lends v (rest k) u o.at) (sym named) o.lends;
            part = λ h. ⊎_elim (λ more. inl more) (λ (takes : TakesAt t.txn k w). inr (subst (λ (u : TxnId). Takes u o.at) (sym named) (subst (Takes t.txn) (one_state k takes.0 o.at w takes.1 o.up) takes.2))) (part k h);
            rests = λ none. o.rests (λ h. none (grows k h));
          };
    }
      where
        one_state : (k : ℕ) (x y : SiteState) (w : WorldState) → site_of w k ≡ Some x → site_of w k ≡ Some y → x ≡ y
        one_state k x y w a b = let z = sym a ∙ b in grind (arith, z)

    -- a step at another site
    pub part_moves : (t : Live) (missing : List ℕ) (w new : WorldState) (k : ℕ) (x : SiteState) (o : Stepped) → Goes t missing w → Known catalogue (scene_of new) → k ≢ q → Did w new k x o → o.effects.commits ≡ [] → Has t.parts k → Lends v (rest k) t.txn o.site → Takes t.txn o.site → Goes t missing new
    part_moves t missing w new k x o f known n d e part lends takes = record {
      known = known;
      stand = still_stand past.told w new k x o f.stand d;
      same = same_journal w new k x o past.entries [] f.same d e ∙ append-nil past.entries;
      at = f.at;
      up = other_as d q (λ same. n (sym same)) ∙ f.up;
      leads = f.leads;
      free = f.free;
      others = λ j here m. ⊎_elim
          (λ (one : j ≡ k). subst (λ (j : ℕ). Other t missing j new) (sym one) (record { at = o.site; up = d.acted.now; lends = lends; part = λ h. inr takes; rests = λ none. absurd (none part) }))
          (λ other. let g = f.others j here m in record { at = g.at; up = other_as d j other ∙ g.up; lends = g.lends; part = g.part; rests = g.rests })
          (same_site j k);
    }

    -- another site has answered the site of the transaction
    pub record Exchanged (t : Live) (missing : List ℕ) (k : ℕ) (answer : Message) (w new : WorldState) : Type 0 where
      pub serving : Goes t missing new
      pub takes : TakesAt t.txn k new
      pub answered : Since past.told new (letter k q answer)
      pub sent : (m : Sent) → Since past.told w m → Since past.told new m

    -- a message to a part comes, and leaves the part there with an answer
    pub exchanges : (lead : Has ns q) (t : Live) (missing : List ℕ) (w : WorldState) (k : ℕ) (here : Has ns k) (n : k ≢ q) (f : Goes t missing w) → Has t.parts k → (words answer : Message) → Since past.told w (letter q k words)
        → Gives v (rest k) t.txn (f.others k here n).at (f.others k here n).lends q answer (step catalogue (f.others k here n).at (input.Message q words)) → Can catalogue (serves_since past.told q ns) w (Exchanged t missing k answer w)
    exchanges lead t missing w k here n f part words answer sent row =
        let g = f.others k here n in
        comes past.told (Exchanged t missing k answer w) w f.known k g.at here g.up q words sent lead f.stand
        λ new known d. can_now catalogue (serves_since past.told q ns) _ new (record {
          serving = part_moves t missing w new k g.at _ f known n d row.commits part row.lends row.takes;
          takes = (_, d.acted.now, row.takes);
          answered = sends_since past.told f.stand.grown d _ (subst (λ (s : ℕ). Has (step catalogue g.at (input.Message q words)).effects.messages (letter s q answer)) (f.known.views.site k g.at g.up).id row.says);
          sent = stays_since past.told d;
        })
