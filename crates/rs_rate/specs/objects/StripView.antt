-- What an encoder of strips holds.
use Rattle.std.specs.Prelude.{List}
use Rattle.rs_field.specs.code.Column.{Shard}
use Rattle.rs_field.specs.code.Configuration.{Configuration}
use Rattle.rs_field.specs.code.Counts.{default_rate}
use Rattle.rs_rate.specs.declared.objects.strip_encoder.StripEncoder.{StripEncoder}
use Rattle.rs_rate.specs.values.Configured.{configuration_at}
use Rattle.rs_rate.specs.rows.EncoderView.{shards_in}

-- the counts of an encoder, and the size of its last strip, or of its largest one before the first strip
abbrev pub code_of : StripEncoder → Configuration
code_of x = configuration_at default_rate x.configuration

-- the recovery shards of the last strip
abbrev pub coded_shards : StripEncoder → List Shard
coded_shards x = shards_in x.configuration x.chunks.items
