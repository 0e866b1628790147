pub mod ServicePaths
