-- What a soak prints.
use Rattle.std.proofs.Common.{◌≡◌, ◌∙◌, ap, sym, subst, ℕ, List, length}
use Rattle.std.specs.Prelude.{Ok, IsSome}
use Rattle.vp_model.specs.Types.{Event, Reply}
use Rattle.vp_model.specs.Catalogue.{start_values}
use Rattle.vp_model.specs.OneCopy.{order, serial}
use Rattle.vp_model.specs.World.{WorldState, Run, run_of, journal_of}
use Rattle.vp_model.specs.Generated.{generated_catalogue, made}
use Rattle.vp_model.specs.Texts.Trace.{printed_lines}
use Rattle.vp_onecopy.specs.Playing.{CommitsWithin}
use Rattle.vp_laws.proofs.Told.OneCopy.{one_copy_told}
use Rattle.vp_laws.proofs.Lists.Catalogues.{whole_catalogue}
use Rattle.vp_world.specs.Known.{Known}
use Rattle.vp_replay.specs.Summary.{replies_of, summary_lines}
use Rattle.vp_replay.specs.Generated.{Makes, IsSoaked}
use Rattle.vp_replay.specs.declared.generating.GeneratedRun.{GeneratedRun}
use Rattle.vp_status.specs.declared.status.Status.TheVariants as status
use Rattle.vp_replay.proofs.GeneratedCatalogue.{generated_is}
use Rattle.vp_replay.proofs.Making.{made_run}
use Rattle.vp_replay.proofs.Shaped.{commits_within}

module _ (seed count : ℕ) (known : Known) (m : GeneratedRun) (makes : Makes seed count (Ok known) m) where
  catalogue_is : generated_catalogue ≡ known.catalogue
  catalogue_is = sym (ap (λ (k : Known). k.catalogue) makes.1)

  world_is : (run_of (made seed count)).world ≡ known.world
  world_is = sym (ap (λ (k : Known). k.world) makes.1 ∙ ap (λ (r : Run). r.world) (made_run seed count))

  pub soak_within : CommitsWithin (length (start_values known.catalogue)) (order known.world.journal)
  soak_within =
      subst (λ (w : WorldState). CommitsWithin (length (start_values known.catalogue)) (order w.journal)) world_is
      (subst (λ c. CommitsWithin (length (start_values c)) (order (journal_of (made seed count)))) catalogue_is (commits_within (made seed count) (whole_catalogue generated_catalogue generated_is.so_far)))

  serial_made : IsSome (serial (start_values generated_catalogue) (order (journal_of (made seed count))))
  serial_made = (one_copy_told (made seed count) (whole_catalogue generated_catalogue generated_is.so_far)).serial

  pub soak_serial : IsSome (serial (start_values known.catalogue) (order known.world.journal))
  soak_serial =
      subst (λ (w : WorldState). IsSome (serial (start_values known.catalogue) (order w.journal))) world_is
      (subst (λ c. IsSome (serial (start_values c) (order (journal_of (made seed count))))) catalogue_is serial_made)

  pub soak_done : (commits : ℕ) → commits ≡ length (order known.world.journal) → (messages : ℕ) → messages ≡ length known.world.sent → (text : List ℕ) → text ≡ summary_lines (length m.events) messages m.replies commits → IsSoaked seed count status.Done text
  soak_done commits c messages s text e = (
    makes.0,
    serial_made,
    e
        ∙ ap (λ (es : List Event). summary_lines (length es) messages m.replies commits) makes.2
        ∙ ap (λ n. summary_lines (length (made seed count).events) n m.replies commits) (s ∙ ap (λ (w : WorldState). length w.sent) (sym world_is))
        ∙ ap (λ (rs : List Reply). summary_lines (length (made seed count).events) (length (run_of (made seed count)).world.sent) rs commits) makes.3
        ∙ ap (summary_lines (length (made seed count).events) (length (run_of (made seed count)).world.sent) (replies_of (printed_lines (made seed count)))) (c ∙ ap (λ (w : WorldState). length (order w.journal)) (sym world_is)),
  )
