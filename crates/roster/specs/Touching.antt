-- Which tables a deed touches.
use Rattle.std.specs.Prelude.{◌≡◌, true}
use Rattle.roster.specs.declared.deed.Deed.{Deed}
use Rattle.roster.specs.declared.deed.Deed.TheVariants.{NickSet, ChannelMade, Changed, Gone}
use Rattle.roster.specs.declared.touched_tables.TouchedTables.{TouchedTables}
use Rattle.roster.specs.declared.touched_tables.TouchedTables.TheVariants as touched
use Rattle.roster.specs.Tables.{is_plain}

-- it is that deed
abbrev pub Touches : TouchedTables → Deed → Type 0
Touches (touched.Person e) d = (d ≡ e) × (is_plain e ≡ true)
Touches (touched.Nick t n) d = d ≡ NickSet t n
Touches (touched.NewChannel t k) d = d ≡ ChannelMade t k
Touches (touched.Channel k x) d = d ≡ Changed k x
Touches (touched.All t) d = d ≡ Gone t
