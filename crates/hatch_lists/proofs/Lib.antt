pub mod CoordinateLaws
