-- Which releases have fit points behind a spline's control points. Assumes nothing.
use Rattle.std.specs.Prelude.{Bool, leb}
use Rattle.text.specs.declared.version.Version.{Version}
use Rattle.text.specs.Releases.{release_number}

-- release 5 and those after it
abbrev pub has_fits : Version → Bool
has_fits v = leb 5 (release_number v)
