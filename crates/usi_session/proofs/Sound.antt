-- The numbers of settings are sound.
use Rattle.std.proofs.Common.{◌≡◌, ◌≤◌, ℕ, Bool, true, false, refl, subst}
use Rattle.std.specs.Int.{IsPowerOfTwo, is_power_of_two}
use Rattle.std.proofs.lemmas.Grind.{not_there}
use Rattle.search_limits.specs.Settings.{PowersHaveOneBit, settings_in}
use Rattle.search_limits.specs.Sizes.{AreSound, IsFromTo}
use Rattle.search_limits.specs.declared.settings.TheConstants.{MOST_SHARDS}
use Rattle.search_limits.specs.declared.settings.Settings.{Settings}
use Rattle.usi_session.specs.declared.options.Options.{Options}
use Rattle.usi_session.specs.declared.act.Act.{Act}
use Rattle.usi_session.specs.declared.act.Act.TheVariants as acts
use Rattle.usi_session.specs.Options.{numbers_by}
use Rattle.usi_session.specs.Seen.{options_in, IsFit}

power-of : PowersHaveOneBit → (n : ℕ) → ∥ IsPowerOfTwo n ∥₁ → IsPowerOfTwo n
power-of law n power = by (is_power_of_two n) refl where
  by : (b : Bool) → is_power_of_two n ≡ b → IsPowerOfTwo n
  by true e = (law n).0 e
  by false e = absurd (not_there power (λ p. let yes = (law n).1 p in absurd (cc)))

pub settings-sound : PowersHaveOneBit → (s : Settings) → AreSound (settings_in s)
settings-sound law s = record {
  ranges = record {
    workers = s.workers_in_range;
    expansions = s.expansions_in_range;
    room = s.room_in_range;
    rows = s.rows_in_range;
    shards = s.shards_in_range;
  };
  rows = power-of law s.rows s.rows_power_of_two;
  shards = power-of law s.shards s.shards_power_of_two;
  within = s.shards_within_rows;
}

pub options-sound : PowersHaveOneBit → (o : Options) → AreSound (numbers_by (options_in o))
options-sound law o =
    let own = settings-sound law o.settings in
    record {
      ranges = record {
        workers = own.ranges.workers;
        expansions = own.ranges.expansions;
        room = own.ranges.room;
        rows = own.ranges.rows;
        shards = subst (λ (n : ℕ). IsFromTo 1 MOST_SHARDS n) o.parts own.ranges.shards;
      };
      rows = own.rows;
      shards = subst IsPowerOfTwo o.parts own.shards;
      within = subst (λ (n : ℕ). n ≤ o.settings.rows) o.parts own.within;
    }

pub fit : PowersHaveOneBit → (act : Act) → IsFit act
fit law (acts.Say text) = tt
fit law (acts.Solve solve) = (solve.problem.accepted, settings-sound law solve.settings)
fit law acts.Quit = tt
fit law acts.Nothing = tt
