-- The fields of a message are read exactly, by the version and its kind.
use Rattle.std.proofs.Common.{◌≡◌, ℕ, Bool, List, [], ◌∷◌, refl, sym, subst, arith}
use Rattle.vp_text.proofs.Exact.{Exact, Made, made_exact}
use Rattle.vp_base.specs.Identifiers.{IsView, IsTxn}
use Rattle.vp_base.specs.declared.ids.ViewId.{ViewId}
use Rattle.vp_base.specs.declared.ids.TxnId.{TxnId}
use Rattle.vp_base.specs.declared.message.Message.{Message}
use Rattle.vp_base.specs.declared.message.Message.TheVariants as message
use Rattle.vp_wire.specs.declared.kind.MessageKind.{MessageKind}
use Rattle.vp_wire.specs.declared.kind.MessageKind.TheVariants as kinds
use Rattle.vp_bytes.specs.Fields.{Spelled, view_bytes, txn_bytes, numbered_bytes, request_bytes, counted_bytes, outcome_byte, IsRequest, IsRecord, IsSites, IsRecs}
use Rattle.vp_contents.specs.Contents.{content_bytes, IsContent}
use Rattle.vp_contents.specs.Changes.{writes_bytes, IsWrites}
use Rattle.vp_contents.specs.Copies.{stored_bytes, IsStored}
use Rattle.vp_contents.specs.declared.version.Version.{Version}
use Rattle.vp_contents.proofs.ContentsExact.{content_exact}
use Rattle.vp_contents.proofs.ChangesExact.{writes_exact}
use Rattle.vp_contents.proofs.CopiesExact.{stored_exact}
use Rattle.vp_wire.specs.Grammar.{obstacle_bytes, message_fields, IsObstacle, IsMessage}
use Rattle.vp_base.specs.Calls.{IsNumbered}
use Rattle.vp_wire.specs.Messages.{message_at}
use Rattle.vp_wire.specs.Kinds.{kind_of_message}
use Rattle.vp_bytes.proofs.Pairs.{pair_bytes, PairAllowed, then_field}
use Rattle.vp_bytes.proofs.Identifiers.{view_exact, txn_exact, txn_free, numbered_exact}
use Rattle.vp_bytes.proofs.Singles.{view_free, numbered_free, request_exact, request_free, rec_exact, rec_free, outcome_exact}
use Rattle.vp_wire.proofs.Obstacles.{obstacle_exact}
use Rattle.vp_bytes.proofs.Items.{sites_exact, recs_exact, recs_free}

module _ (version : Version) where
  -- the fields of a message of this kind
  abbrev pub MessageOf : MessageKind → Message → List ℕ → Type 0
  MessageOf kinds.Invite = Made (Spelled view_bytes IsView) (λ p. message.Invite p)
  MessageOf kinds.Accept = Made (Spelled view_bytes IsView) (λ p. message.Accept p)
  MessageOf kinds.Stale = Made (Spelled (pair_bytes view_bytes view_bytes) (PairAllowed IsView IsView)) (λ p. message.Stale p.0 p.1)
  MessageOf kinds.ViewCommit = Made (Spelled (pair_bytes view_bytes counted_bytes) (PairAllowed IsView (IsSites 1))) (λ p. message.ViewCommit p.0 p.1)
  MessageOf kinds.ReadRequest = Made (Spelled (pair_bytes (λ (asked : TxnId × ViewId × ℕ). request_bytes asked.0 asked.1 asked.2) (λ (rec : ℕ). rec ∷ [])) (PairAllowed (λ (asked : TxnId × ViewId × ℕ). IsRequest asked.0 asked.1 asked.2) IsRecord)) (λ p. message.ReadRequest p.0.0 p.0.1 p.0.2 p.1)
  MessageOf kinds.ReadAnswer = Made (Spelled (pair_bytes (λ (numbered : TxnId × ℕ). numbered_bytes numbered.0 numbered.1) (content_bytes version)) (PairAllowed (λ (numbered : TxnId × ℕ). IsNumbered numbered.0 numbered.1) (IsContent version))) (λ p. message.ReadAnswer p.0.0 p.0.1 p.1)
  MessageOf kinds.WriteRequest = Made (Spelled (pair_bytes (λ (asked : TxnId × ViewId × ℕ). request_bytes asked.0 asked.1 asked.2) (λ (rec : ℕ). rec ∷ [])) (PairAllowed (λ (asked : TxnId × ViewId × ℕ). IsRequest asked.0 asked.1 asked.2) IsRecord)) (λ p. message.WriteRequest p.0.0 p.0.1 p.0.2 p.1)
  MessageOf kinds.WriteAnswer = Made (Spelled (λ (numbered : TxnId × ℕ). numbered_bytes numbered.0 numbered.1) (λ (numbered : TxnId × ℕ). IsNumbered numbered.0 numbered.1)) (λ p. message.WriteAnswer p.0 p.1)
  MessageOf kinds.Refuse = Made (Spelled (pair_bytes (λ (numbered : TxnId × ℕ). numbered_bytes numbered.0 numbered.1) obstacle_bytes) (PairAllowed (λ (numbered : TxnId × ℕ). IsNumbered numbered.0 numbered.1) (IsObstacle version))) (λ p. message.Refuse p.0.0 p.0.1 p.1)
  MessageOf kinds.Prepare = Made (Spelled (pair_bytes (λ (asked : TxnId × ViewId × ℕ). request_bytes asked.0 asked.1 asked.2) (pair_bytes counted_bytes (writes_bytes version))) (PairAllowed (λ (asked : TxnId × ViewId × ℕ). IsRequest asked.0 asked.1 asked.2) (PairAllowed IsRecs (IsWrites version)))) (λ p. message.Prepare p.0.0 p.0.1 p.0.2 p.1.0 p.1.1)
  MessageOf kinds.Vote = Made (Spelled txn_bytes IsTxn) (λ p. message.Vote p)
  MessageOf kinds.Outcome = Made (Spelled (pair_bytes txn_bytes (λ (commit : Bool). outcome_byte commit ∷ [])) (PairAllowed IsTxn (λ (commit : Bool). Unit {0}))) (λ p. message.Outcome p.0 p.1)
  MessageOf kinds.Ack = Made (Spelled txn_bytes IsTxn) (λ p. message.Ack p)
  MessageOf kinds.Inquire = Made (Spelled txn_bytes IsTxn) (λ p. message.Inquire p)
  MessageOf kinds.RefreshRequest = Made (Spelled (pair_bytes view_bytes (λ (rec : ℕ). rec ∷ [])) (PairAllowed IsView IsRecord)) (λ p. message.RefreshRequest p.0 p.1)
  MessageOf kinds.RefreshAnswer = Made (Spelled (pair_bytes view_bytes (pair_bytes (λ (rec : ℕ). rec ∷ []) (stored_bytes version))) (PairAllowed IsView (PairAllowed IsRecord (IsStored version)))) (λ p. message.RefreshAnswer p.0 p.1.0 p.1.1)
  MessageOf kinds.Probe = Made (Spelled view_bytes IsView) (λ p. message.Probe p)

  pub message_fields_exact : (kind : MessageKind) → Exact (MessageOf kind) (message_at version kind)
  unfolding message_at
  message_fields_exact kinds.Invite = made_exact (λ id. message.Invite id) view_exact
  message_fields_exact kinds.Accept = made_exact (λ id. message.Accept id) view_exact
  message_fields_exact kinds.Stale = then_field (λ id p. message.Stale id p) view_free view_exact (λ id. made_exact (λ promise. message.Stale id promise) view_exact)
  message_fields_exact kinds.ViewCommit = then_field (λ id p. message.ViewCommit id p) view_free view_exact (λ id. made_exact (λ members. message.ViewCommit id members) (sites_exact 1 (omega arith)))
  message_fields_exact kinds.ReadRequest = then_field (λ asked p. message.ReadRequest asked.0 asked.1 asked.2 p) request_free request_exact (λ asked. made_exact (λ rec. message.ReadRequest asked.0 asked.1 asked.2 rec) rec_exact)
  message_fields_exact kinds.ReadAnswer = then_field (λ numbered p. message.ReadAnswer numbered.0 numbered.1 p) numbered_free numbered_exact (λ numbered. made_exact (λ value. message.ReadAnswer numbered.0 numbered.1 value) (content_exact version))
  message_fields_exact kinds.WriteRequest = then_field (λ asked p. message.WriteRequest asked.0 asked.1 asked.2 p) request_free request_exact (λ asked. made_exact (λ rec. message.WriteRequest asked.0 asked.1 asked.2 rec) rec_exact)
  message_fields_exact kinds.WriteAnswer = made_exact (λ numbered. message.WriteAnswer numbered.0 numbered.1) numbered_exact
  message_fields_exact kinds.Refuse = then_field (λ numbered p. message.Refuse numbered.0 numbered.1 p) numbered_free numbered_exact (λ numbered. made_exact (λ why. message.Refuse numbered.0 numbered.1 why) (obstacle_exact version))
  message_fields_exact kinds.Prepare = then_field (λ asked p. message.Prepare asked.0 asked.1 asked.2 p.0 p.1) request_free request_exact (λ asked. then_field (λ reads p. message.Prepare asked.0 asked.1 asked.2 reads p) recs_free recs_exact (λ reads. made_exact (λ writes. message.Prepare asked.0 asked.1 asked.2 reads writes) (writes_exact version)))
  message_fields_exact kinds.Vote = made_exact (λ txn. message.Vote txn) txn_exact
  message_fields_exact kinds.Outcome = then_field (λ txn p. message.Outcome txn p) txn_free txn_exact (λ txn. made_exact (λ commit. message.Outcome txn commit) outcome_exact)
  message_fields_exact kinds.Ack = made_exact (λ txn. message.Ack txn) txn_exact
  message_fields_exact kinds.Inquire = made_exact (λ txn. message.Inquire txn) txn_exact
  message_fields_exact kinds.RefreshRequest = then_field (λ view p. message.RefreshRequest view p) view_free view_exact (λ view. made_exact (λ rec. message.RefreshRequest view rec) rec_exact)
  message_fields_exact kinds.RefreshAnswer = then_field (λ view p. message.RefreshAnswer view p.0 p.1) view_free view_exact (λ view. then_field (λ rec stored. message.RefreshAnswer view rec stored) rec_free rec_exact (λ rec. made_exact (λ stored. message.RefreshAnswer view rec stored) (stored_exact version)))
  message_fields_exact kinds.Probe = made_exact (λ view. message.Probe view) view_exact

  -- The message is one of this kind, with these fields.
  abbrev pub IsMessageOf : MessageKind → Message → List ℕ → Type 0
  IsMessageOf kind m text = (kind_of_message m ≡ kind) × (text ≡ message_fields version m) × IsMessage version m

  pub message_to : (kind : MessageKind) (m : Message) (t : List ℕ) → MessageOf kind m t → IsMessageOf kind m t
  message_to kinds.Invite m t h = subst (λ (m : Message). IsMessageOf kinds.Invite m t) (sym h.is) (refl, h.spelled.is, h.spelled.allowed)
  message_to kinds.Accept m t h = subst (λ (m : Message). IsMessageOf kinds.Accept m t) (sym h.is) (refl, h.spelled.is, h.spelled.allowed)
  message_to kinds.Stale m t h = subst (λ (m : Message). IsMessageOf kinds.Stale m t) (sym h.is) (refl, h.spelled.is, (h.spelled.allowed.0, h.spelled.allowed.1))
  message_to kinds.ViewCommit m t h = subst (λ (m : Message). IsMessageOf kinds.ViewCommit m t) (sym h.is) (refl, h.spelled.is, (h.spelled.allowed.0, h.spelled.allowed.1))
  message_to kinds.ReadRequest m t h = subst (λ (m : Message). IsMessageOf kinds.ReadRequest m t) (sym h.is) (refl, h.spelled.is, (h.spelled.allowed.0, h.spelled.allowed.1))
  message_to kinds.ReadAnswer m t h = subst (λ (m : Message). IsMessageOf kinds.ReadAnswer m t) (sym h.is) (refl, h.spelled.is, (h.spelled.allowed.0, h.spelled.allowed.1))
  message_to kinds.WriteRequest m t h = subst (λ (m : Message). IsMessageOf kinds.WriteRequest m t) (sym h.is) (refl, h.spelled.is, (h.spelled.allowed.0, h.spelled.allowed.1))
  message_to kinds.WriteAnswer m t h = subst (λ (m : Message). IsMessageOf kinds.WriteAnswer m t) (sym h.is) (refl, h.spelled.is, h.spelled.allowed)
  message_to kinds.Refuse m t h = subst (λ (m : Message). IsMessageOf kinds.Refuse m t) (sym h.is) (refl, h.spelled.is, (h.spelled.allowed.0, h.spelled.allowed.1))
  message_to kinds.Prepare m t h = subst (λ (m : Message). IsMessageOf kinds.Prepare m t) (sym h.is) (refl, h.spelled.is, (h.spelled.allowed.0, h.spelled.allowed.1.0, h.spelled.allowed.1.1))
  message_to kinds.Vote m t h = subst (λ (m : Message). IsMessageOf kinds.Vote m t) (sym h.is) (refl, h.spelled.is, h.spelled.allowed)
  message_to kinds.Outcome m t h = subst (λ (m : Message). IsMessageOf kinds.Outcome m t) (sym h.is) (refl, h.spelled.is, h.spelled.allowed.0)
  message_to kinds.Ack m t h = subst (λ (m : Message). IsMessageOf kinds.Ack m t) (sym h.is) (refl, h.spelled.is, h.spelled.allowed)
  message_to kinds.Inquire m t h = subst (λ (m : Message). IsMessageOf kinds.Inquire m t) (sym h.is) (refl, h.spelled.is, h.spelled.allowed)
  message_to kinds.RefreshRequest m t h = subst (λ (m : Message). IsMessageOf kinds.RefreshRequest m t) (sym h.is) (refl, h.spelled.is, (h.spelled.allowed.0, h.spelled.allowed.1))
  message_to kinds.RefreshAnswer m t h = subst (λ (m : Message). IsMessageOf kinds.RefreshAnswer m t) (sym h.is) (refl, h.spelled.is, (h.spelled.allowed.0, (h.spelled.allowed.1.0, h.spelled.allowed.1.1)))
  message_to kinds.Probe m t h = subst (λ (m : Message). IsMessageOf kinds.Probe m t) (sym h.is) (refl, h.spelled.is, h.spelled.allowed)

  pub message_from : (m : Message) → IsMessage version m → MessageOf (kind_of_message m) m (message_fields version m)
  message_from (message.Invite id) a = record { from = id; spelled = record { is = refl; allowed = a }; is = refl }
  message_from (message.Accept id) a = record { from = id; spelled = record { is = refl; allowed = a }; is = refl }
  message_from (message.Stale id promise) a = record { from = (id, promise); spelled = record { is = refl; allowed = (a.0, a.1) }; is = refl }
  message_from (message.ViewCommit id members) a = record { from = (id, members); spelled = record { is = refl; allowed = (a.0, a.1) }; is = refl }
  message_from (message.ReadRequest txn view number rec) a = record { from = ((txn, view, number), rec); spelled = record { is = refl; allowed = (a.0, a.1) }; is = refl }
  message_from (message.ReadAnswer txn number value) a = record { from = ((txn, number), value); spelled = record { is = refl; allowed = (a.0, a.1) }; is = refl }
  message_from (message.WriteRequest txn view number rec) a = record { from = ((txn, view, number), rec); spelled = record { is = refl; allowed = (a.0, a.1) }; is = refl }
  message_from (message.WriteAnswer txn number) a = record { from = (txn, number); spelled = record { is = refl; allowed = a }; is = refl }
  message_from (message.Refuse txn number why) a = record { from = ((txn, number), why); spelled = record { is = refl; allowed = (a.0, a.1) }; is = refl }
  message_from (message.Prepare txn view number reads writes) a = record { from = ((txn, view, number), (reads, writes)); spelled = record { is = refl; allowed = (a.0, (a.1, a.2)) }; is = refl }
  message_from (message.Vote txn) a = record { from = txn; spelled = record { is = refl; allowed = a }; is = refl }
  message_from (message.Outcome txn commit) a = record { from = (txn, commit); spelled = record { is = refl; allowed = (a, tt) }; is = refl }
  message_from (message.Ack txn) a = record { from = txn; spelled = record { is = refl; allowed = a }; is = refl }
  message_from (message.Inquire txn) a = record { from = txn; spelled = record { is = refl; allowed = a }; is = refl }
  message_from (message.RefreshRequest view rec) a = record { from = (view, rec); spelled = record { is = refl; allowed = (a.0, a.1) }; is = refl }
  message_from (message.RefreshAnswer view rec stored) a = record { from = (view, (rec, stored)); spelled = record { is = refl; allowed = (a.0, (a.1.0, a.1.1)) }; is = refl }
  message_from (message.Probe view) a = record { from = view; spelled = record { is = refl; allowed = a }; is = refl }
